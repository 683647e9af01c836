-- An arrival in the second pass: what `reconcile` leaves, by what is collected. Assumes nothing.
use mathlib.Core.Path.{◌≡◌, refl, ap, ◌∙◌}
use mathlib.Core.Bool.{Bool, true, not, cond}
use mathlib.Core.List.{List}
use Prim.Native.Nat.{ℕ}
use Rattle.std.specs.Prelude.{Result, Ok, Err}
use lib.Dec.{eqb}
use lib.ListN.{length}
use Rattle.model.specs.Words.{word}
use Rattle.model.specs.Answer.{Answer, done}
use Rattle.model.specs.Place.{At}
use Rattle.model.specs.Block.{entry_point}
use Rattle.model.specs.Record.{point_entry}
use Rattle.model.specs.Rounds.{put}
use Rattle.base.specs.Tests.{clash}
use Rattle.base.specs.Each.{Each}
use Rattle.laws.specs.Lifted.{Dashed}
use Rattle.refusal.specs.declared.Refusal.{Refusal}
use Rattle.statements.specs.Kept.{at_point}
use Rattle.statements.specs.declared.Out.{Out}
use Rattle.statements.specs.declared.Point.{Point}
use Rattle.statements.proofs.Puts.{alike_at, puts_alike}
use Rattle.collect.specs.Answers.{Collects}
use Rattle.arrival.specs.Arrivals.{Reconciles}
use Rattle.arrival.proofs.Lines.{lines_at}
use Rattle.arrival.proofs.Stores.{unless}

-- by what is collected at the point p, which is x
module _ {fn : List ℕ} {p : ℕ} {out out' : List ℕ} {o : Out} {x : Point} (here : (x.op, x.arg) ≡ point_entry (entry_point fn) p) {a : Answer (List At)} {r : Result Out Refusal}
    (dashed : (ts : List At) → a ≡ done ts → Each Dashed ts) (long : length out' ≡ length out) (k : Collects out (at_point o x) out' a r) {c : ℕ} {visited : List ℕ} {waits waits' : ℕ → Bool} where
  -- a refusal
  pub reconciles_refused : {f : Refusal} → r ≡ Err f → Reconciles fn p c visited waits out o a waits' out' (Err f)
  reconciles_refused {f} e =
      let y = k.stopped f e in
      record { same = long; denied = λ m d. cc; told = λ ts d. clash (cc); waiting = λ ts d. clash (cc) }

  -- lines recorded
  pub reconciles_over : {q : Out} {v : Bool} → r ≡ Ok q → v ≡ not (eqb (word visited c) 0) → waits' ≡ cond v waits (put waits c true)
      → Reconciles fn p c visited waits out o a waits' out' (Ok q)
  reconciles_over {q} {v} e d w =
      let (b, y, puts) = k.recorded q e in
      record {
        same = long;
        denied = λ m d. clash (cc);
        told = λ ts d. let same : b ≡ ts = cc in (q, refl, puts_alike (alike_at o x) (rw (same, lines_at (entry_point fn) p here (dashed ts d)) at puts));
        waiting = λ ts z. w ∙ ap (λ (b : Bool). cond b waits (put waits c true)) d ∙ unless (eqb (word visited c) 0) waits (put waits c true);
      }
