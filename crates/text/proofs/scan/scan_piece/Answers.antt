-- `text::scan::scan_piece` meets its contract. The loop's invariant: the bytes before i are read. Assumes nothing.
use mathlib.Core.Path.{◌≡◌, sym, ap, ◌∙◌}
use mathlib.Core.List.{List}
use Prim.Native.Nat.{ℕ, ◌+◌, ◌<◌}
use native.Mathlib.Numerals.{add-one}
use native.Mathlib.Omega.{arith}
use lib.ListN.{length, take, drop, get_or}
use lib.Seq.{take-suc}
use Rattle.std.proofs.lemmas.List.{take-append-drop}
use Rattle.std.specs.Prelude.{Option, None}
use Rattle.model.specs.Ghosts as Model
use Rattle.model.specs.Ghosts.{scan, scan_byte}
use Rattle.records.specs.Scanned.{scan_append, scan_snoc, scan_spoilt}
use Rattle.text.specs.declared.scan.Scan.{Scan}
use Rattle.text.specs.Reading.{Steps}
use Rattle.text.proofs.Stepped.{stays, stays_spoilt, steps_as, steps_on}
use Rattle.text.proofs.scan.scan_piece.Goals as goal

-- a byte more
scan_next : (text : List ℕ) (i : ℕ) (m : Model.Scan) → i < length text → scan (take (i + 1) text) m ≡ scan_byte (get_or text i 0) (scan (take i text) m)
scan_next text i m l = rw (add-one i, take-suc text i 0 l) (scan_snoc (take i text) (get_or text i 0) m)

-- a text of which some bytes are spoilt is spoilt
spoilt_whole : (text : List ℕ) (i : ℕ) {s : Option Scan} {words after : List ℕ} → Steps (scan (take i text)) s words None after → Steps (scan text) s words None after
spoilt_whole text i h =
    record {
      room = h.room;
      reads = λ m k.
          let r = h.reads m k in
          record {
            room = r.room;
            at = ap (λ (l : List ℕ). scan l m) (sym (take-append-drop i text)) ∙ scan_append (take i text) (drop i text) m ∙ ap (scan (drop i text)) r.at ∙ scan_spoilt (drop i text);
          };
    }

-- it was spoilt before
pub returns-in_err-t : goal.returns-in_err-t
returns-in_err-t c = rw (c.from_residual.ensures, c.in_err-t.was) (stays_spoilt _ c.requires (scan_spoilt _))

pub loop-c-init : goal.loop-c-init
unfolding scan
loop-c-init c = rw c.in_ok-t.was (stays _ c.requires)

-- a byte spoils it
pub returns-in_err-t-2 : goal.returns-in_err-t-2
returns-in_err-t-2 c =
    let h = steps_as (λ m h. scan_next _ c.loop-c.c-index m (omega arith)) (steps_on c.loop-c.invariant c.scan_byte.ensures) in
    rw c.from_residual-in_err-t-2.ensures (spoilt_whole _ (c.loop-c.c-index + 1) (rw c.in_err-t-2.was at h))

pub loop-c-preserved : goal.loop-c-preserved
loop-c-preserved c =
    steps_as (λ m h. scan_next _ c.loop-c.c-index m (omega arith)) (steps_on c.loop-c.invariant c.in_ok-t-2.ensures)
