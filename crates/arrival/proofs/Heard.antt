-- What is recorded stands in the buffer, line behind line, as model hears it.
use mathlib.Core.Path.{◌≡◌, refl, sym, ap, ◌∙◌, subst}
use mathlib.Core.Bool.{Bool, true, false}
use mathlib.Core.List.{List, [], ◌∷◌, ◌++◌, append_assoc, append-nil}
use Prim.Native.Nat.{ℕ}
use lib.ListN.{length, length-append}
use lib.Seq.{append_snoc}
use Rattle.model.specs.Answer.{Answer}
use Rattle.model.specs.Tree.{Forest}
use Rattle.model.specs.Place.{At}
use Rattle.model.specs.Function.{local_types}
use Rattle.model.specs.Block.{entry_point}
use Rattle.model.specs.Frame.{Line, mark}
use Rattle.model.specs.Passes.{hear}
use Rattle.model.specs.Record.{Entry, point_entry}
use Rattle.model.specs.Body.{frame}
use Rattle.solver.specs.Direct as Direct
use Rattle.base.specs.Each.{Each}
use Rattle.laws.specs.Lifted.{Dashed}
use Rattle.records.specs.Recorded.{length_mark}
use Rattle.base.specs.Tests.{clash}
use Rattle.statements.specs.Marked.{marked}
use Rattle.statements.specs.Kept.{Puts}
use Rattle.statements.proofs.Marks.{marked_append}
use Rattle.statements.proofs.Puts.{counted_alike}
use Rattle.statements.specs.declared.Out.{Out}
use Rattle.state.specs.declared.nodes.State.{State}
use Rattle.state.specs.Given.{Stated}
use Rattle.statements.specs.Points.{point, Tells}
use Rattle.collectors.specs.Trail.{lines_of, root}
use Rattle.arrival.specs.Memory.{Memory, hears, arrives}
use Rattle.arrival.specs.Shares.{Arrays}
use Rattle.arrival.specs.Visits.{Spoken, Ongoing}
use Rattle.arrival.proofs.Lines.{lines_at}

-- lines behind lines, if the pass records
abbrev pub told : Bool → List (Line At) → List (Line At) → List (Line At)
told false ls ms = ls
told true ls ms = ls ++ ms

-- in two parts
pub told_more : (recording : Bool) (ls ms ns : List (Line At)) → told recording (told recording ls ms) ns ≡ told recording ls (ms ++ ns)
told_more false ls ms ns = refl
told_more true ls ms ns = append_assoc ls ms ns

-- a memory with other lines
abbrev with_lines : Memory → List (Line At) → Memory
with_lines m ls = record { kept = m.kept; waits = m.waits; visited = m.visited; lines = ls }

-- with more lines
abbrev pub telling : Bool → List (Line At) → Memory → Memory
telling recording ms m = with_lines m (told recording m.lines ms)

-- lines one after the other are lines in one
pub hears_told : (Γ fn : List ℕ) (recording : Bool) (ls : List (Line At)) (m : Memory)
    → Direct.hears (frame Γ fn) (hears Γ fn recording) (arrives Γ fn recording) ls m ≡ telling recording ls m
unfolding Direct.hears hear
hears_told Γ fn false [] m = refl
hears_told Γ fn false (l ∷ ls) m = hears_told Γ fn false ls m
hears_told Γ fn true [] m = ap (with_lines m) (sym (append-nil m.lines))
hears_told Γ fn true (l ∷ ls) m = hears_told Γ fn true ls (hears Γ fn true l m) ∙ ap (with_lines m) (append_snoc m.lines l ls)

-- and behind what was spoken
pub spoken_told : {fn : List ℕ} {recording : Bool} {ls ms : List (Line At)} {out out' : List ℕ} {o q : Out} → Spoken fn recording ls out o
    → Tells fn out o out' q ms → Spoken fn recording (told recording ls ms) out' q
spoken_told {recording = false} {ls} S T =
    let (e, A) = T.silent S.pen in
    rw e (record { pen = A.recording ∙ S.pen; counted = counted_alike A S.counted; kept = λ d. clash (cc) })
spoken_told {fn} {recording = true} {ls} {ms} S T =
    let P = T.told S.pen in
    record {
      pen = P.recording ∙ S.pen;
      counted = P.counted;
      kept = λ e. rw (length-append ls ms, marked_append (entry_point fn) ls ms) (P.kept (length ls) (marked (entry_point fn) ls) (S.kept refl));
    }

-- the pass is the one that the record says
pub spoken_own : {fn : List ℕ} {recording : Bool} {ls : List (Line At)} {out : List ℕ} {o : Out} → Spoken fn recording ls out o → Spoken fn o.recording ls out o
spoken_own {fn} {ls = ls} {out} {o} S = subst (λ (b : Bool). Spoken fn b ls out o) (sym S.pen) S

-- statements that are collected and put at the item i are told there
pub puts_tells : {fn : List ℕ} {out out' : List ℕ} {o q : Out} (i : ℕ) (ts : List At) {e : Entry} → Each Dashed ts → o.recording ≡ true
    → e ≡ point_entry (entry_point fn) (point fn false i) → Puts (length ts) out o out' q (lines_of e (root 0) ts)
    → Tells fn out o out' q (mark i ts)
unfolding point
puts_tells {fn} i ts h t d P = record {
  told = λ u. rw (length_mark i ts, ← lines_at (entry_point fn) i d h) P;
  silent = λ u. clash (cc);
}

-- s holds some state
pub stated : {Γ fn : List ℕ} {a : Arrays} {out : List ℕ} {o : Out} {s : State} {f : Bool → Forest → Memory → Answer Memory} → Ongoing Γ fn a out o s f
    → Stated Γ (local_types fn) s
stated O = record { state = O.state; holds = O.holds }

-- what is asked next has the same answer
pub ongoing_as : {Γ fn : List ℕ} {a : Arrays} {out : List ℕ} {o : Out} {s : State} {f g : Bool → Forest → Memory → Answer Memory} (O : Ongoing Γ fn a out o s f)
    → f o.recording O.state O.memory ≡ g o.recording O.state O.memory → Ongoing Γ fn a out o s g
ongoing_as O e = record { memory = O.memory; is = O.is; spoken = O.spoken; state = O.state; holds = O.holds; goes = λ d. O.goes (e ∙ d) }
