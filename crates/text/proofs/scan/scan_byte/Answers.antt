-- `text::scan::scan_byte` meets its contract: what each kind of byte does. Assumes nothing.
use borrow.Author.Tests.{le-leb, lt-leb, eq-eqb, ne_eqb}
use mathlib.Core.Path.{◌≡◌, refl}
use mathlib.Core.Logic.{◌⊎◌, inl, inr, ⊎_elim}
use mathlib.Core.Bool.{true, false}
use Prim.Native.Nat.{ℕ, ◌-◌, ◌≤◌, ◌<◌}
use native.Mathlib.Omega.{arith}
use mathlib.Core.List.{List}
use lib.Dec.{eqb}
use lib.ListN.{length}
use Rattle.std.specs.Prelude.{Option, None, Some}
use Rattle.model.specs.Ghosts as Model
use Rattle.model.specs.Ghosts.{close, digit, scan_byte}
use Rattle.records.specs.Scanned.{byte_bad}
use Rattle.text.specs.declared.scan.Scan.{Scan}
use Rattle.text.specs.Reading.{Steps}
use Rattle.text.proofs.Stepped.{spoils, stays_spoilt, steps_as}
use Rattle.text.proofs.scan.scan_byte.Goals as goal

module _ (c : ℕ) (m : Model.Scan) (f : m.fine ≡ true) where
  -- a newline or a blank
  byte_blank : (c ≡ 10) ⊎ (c ≡ 32) → scan_byte c m ≡ close m
  unfolding scan_byte
  byte_blank h = ⊎_elim (λ e. cc (ne_eqb c 32 (λ d. omega arith), eq-eqb c 10 e)) (λ e. cc (eq-eqb c 32 e)) h

  -- a digit
  byte_digit : 48 ≤ c → c < 58 → scan_byte c m ≡ digit (c - 48) m
  unfolding scan_byte
  byte_digit p q = cc (ne_eqb c 32 (λ e. omega arith), ne_eqb c 10 (λ e. omega arith), le-leb 48 c p, le-leb c 57 (omega arith))

  -- any other
  byte_other : ¬ ((c ≡ 10) ⊎ (c ≡ 32)) → (c < 48) ⊎ (58 ≤ c) → scan_byte c m ≡ Model.spoilt
  unfolding scan_byte
  byte_other n h =
      let p : eqb c 10 ≡ false = ne_eqb c 10 (λ e. n (inl e)) in
      let q : eqb c 32 ≡ false = ne_eqb c 32 (λ e. n (inr e)) in
      ⊎_elim (λ l. cc (lt-leb 48 c l)) (λ l. cc (le-leb 48 c (omega arith), lt-leb c 57 (omega arith))) h

spoilt_byte : (c : ℕ) → scan_byte c Model.spoilt ≡ Model.spoilt
spoilt_byte c = byte_bad c Model.spoilt refl

-- all is spoilt already
spoilt_before : (c : ℕ) {o : Option Scan} (words : List ℕ) → length words ≡ 4096 → o ≡ None → Steps (scan_byte c) o words None words
spoilt_before c words n e = rw e (stays_spoilt words n (spoilt_byte c))

-- the byte is read as f reads
read_as : {f : Model.Scan → Model.Scan} (c : ℕ) {o : Option Scan} (s : Scan) {words after : List ℕ} {r : Option Scan} → o ≡ Some s
    → ((m : Model.Scan) → m.fine ≡ true → scan_byte c m ≡ f m) → Steps f (Some s) words r after → Steps (scan_byte c) o words r after
read_as c s e k h = rw e (steps_as (λ m w. k m w.at.fine) h)

pub returns-in_err-s : goal.returns-in_err-s
returns-in_err-s c = rw c.from_residual.ensures (spoilt_before _ _ c.requires c.in_err-s.was)

pub returns-in-10 : goal.returns-in-10
returns-in-10 c = read_as _ _ c.in_ok-s.was (λ m f. byte_blank _ m f c.in-10.is) c.close.ensures

pub returns-in-48-to-57 : goal.returns-in-48-to-57
returns-in-48-to-57 c =
    read_as _ _ c.in_ok-s.was (λ m f. byte_digit _ m f (omega arith) (omega arith)) (rw c.from.ensures at (c.digit.ensures _ c.requires))

pub returns-in_default : goal.returns-in_default
returns-in_default c =
    read_as _ _ c.in_ok-s.was (λ m f. byte_other _ m f (⊎_elim (λ e. grind arith) (λ e. grind arith)) (inl (omega arith))) (spoils _ c.requires)

pub returns-in_default-2 : goal.returns-in_default-2
returns-in_default-2 c =
    read_as _ _ c.in_ok-s.was (λ m f. byte_other _ m f (⊎_elim (λ e. grind arith) (λ e. grind arith)) (inr (omega arith))) (spoils _ c.requires)
