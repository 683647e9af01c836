-- A block that is entered, in the arrays and in the buffer: refused by its items, over at its return, left by its targets.
use mathlib.Core.Path.{◌≡◌, refl, ◌∙◌, subst, subst₂}
use mathlib.Core.Bool.{Bool, true, false}
use mathlib.Core.List.{List, ◌++◌, append-nil}
use Prim.Native.Nat.{ℕ, suc, ◌-◌, ◌<◌}
use Rattle.std.specs.Prelude.{Result, Ok, Err}
use lib.ListN.{length}
use Rattle.model.specs.Answer.{Answer, refused, done}
use Rattle.model.specs.Tree.{Forest}
use Rattle.model.specs.Place.{At}
use Rattle.model.specs.Collect.{folds_at_ret}
use Rattle.model.specs.Function.{nargs, nblocks, local_types, start, stop}
use Rattle.model.specs.Block.{returns}
use Rattle.model.specs.Frame.{Line, mark}
use Rattle.base.specs.Tests.{clash}
use Rattle.base.specs.Answer.{split_answer}
use Rattle.base.specs.Function.{FunctionFacts}
use Rattle.records.specs.Here.{Holds}
use Rattle.refusal.specs.Refusal.{number}
use Rattle.refusal.specs.declared.Refusal.{Refusal}
use Rattle.state.specs.Value.{value}
use Rattle.state.specs.declared.nodes.State.{State}
use Rattle.statements.specs.declared.Out.{Out}
use Rattle.body.specs.Uses.{uses, Passes}
use Rattle.statements.specs.Points.{Tells}
use Rattle.body.proofs.Passing.{tells_same}
use Rattle.arrival.specs.Memory.{Memory, enters, departs}
use Rattle.arrival.specs.Shares.{Arrays, Remembers, Alike}
use Rattle.arrival.specs.Visits.{Spoken, Visits}
use Rattle.arrival.proofs.Heard.{told_more, telling, spoken_told}
use Rattle.visit.proofs.Steps.{enters_uses, departs_none, ret_some, ret_none}

-- all lengths are as they are
pub alike_same : (x : Arrays) → Alike x x
alike_same x = record { kept = refl; visited = refl; waits = refl; forms = refl; whats = refl }

-- as they were before
pub alike_then : {x y z : Arrays} → Alike x y → Alike y z → Alike x z
alike_then A B = record {
  kept = B.kept ∙ A.kept;
  visited = B.visited ∙ A.visited;
  waits = B.waits ∙ A.waits;
  forms = B.forms ∙ A.forms;
  whats = B.whats ∙ A.whats;
}

-- what was told is no part of the arrays
pub told_remembers : {Γ fn : List ℕ} (recording : Bool) {x : Arrays} {m : Memory} (ls : List (Line At)) → Remembers Γ fn m x → Remembers Γ fn (telling recording ls m) x
told_remembers recording ls R = record {
  long = R.long;
  saved = R.saved;
  unsaved = R.unsaved;
  waits = R.waits;
  visited = R.visited;
  forms_rest = R.forms_rest;
  whats_rest = R.whats_rest;
}

-- the items were passed
pub passes_gone : {Γ fn out out' : List ℕ} {o q : Out} {a : Answer (Forest × List (Line At))} {s : State} → Passes Γ fn out o out' a (Ok q) s
    → (w : Forest × List (Line At)) × (a ≡ done w) × Holds Γ (local_types fn) (value s) w.0 × Tells fn out o out' q w.1
passes_gone {fn = fn} {out} {out'} {o} {q} {a} P = split_answer a
    (λ n e. let d = P.denied n e in clash (cc))
    (λ w e. let G = P.gone w e in let z : G.told ≡ q = cc G.fine in
    (w, e, G.state, subst (λ (t : Out). Tells fn out o out' t w.1) z G.lines))

-- the items are those of the block b
pub passes_block : {Γ fn out out' : List ℕ} {o : Out} {r : Result Out Refusal} {s : State} (E : Forest) (b : ℕ) {i k : ℕ} → i ≡ start fn b → k ≡ stop fn b
    → Passes Γ fn out o out' (uses Γ fn false (k - i) i E) r s → Passes Γ fn out o out' (uses Γ fn false (stop fn b - start fn b) (start fn b) E) r s
passes_block {Γ} {fn} {out} {out'} {o} {r} {s} E b e d P = subst₂ (λ (i k : ℕ). Passes Γ fn out o out' (uses Γ fn false (k - i) i E) r s) e d P

-- a block whose items pass, and which doesn't return, is left
pub enters_departs : (Γ fn : List ℕ) (recording : Bool) (n b : ℕ) → b < nblocks fn → (E : Forest) (m : Memory) {w : Forest × List (Line At)}
    → uses Γ fn false (stop fn b - start fn b) (start fn b) E ≡ done w → returns fn b ≡ false
    → enters Γ fn recording (suc n) b E m ≡ departs Γ fn recording n b w.0 (telling recording w.1 m)
enters_departs Γ fn recording n b l E m {w} u e = enters_uses Γ fn recording n b E m l ∙ rw (u, ret_none Γ fn b w.0 e, append-nil) refl

-- a visit in the pass that the record says
pub visits_pen : {Γ fn : List ℕ} {b recording : Bool} {x x' : Arrays} {out out' : List ℕ} {v : Result Out Refusal} (f : Bool → Answer Memory) → b ≡ recording
    → Visits Γ fn b x out (f b) x' out' v → Visits Γ fn recording x out (f recording) x' out' v
visits_pen {Γ} {fn} {x = x} {x'} {out} {out'} {v} f e N = subst (λ (c : Bool). Visits Γ fn c x out (f c) x' out' v) e N

module _ {Γ fn : List ℕ} {recording : Bool} where
  -- a visit that model refuses
  pub visits_refused : {x x' : Arrays} {out out' : List ℕ} {a : Answer Memory} {k : Refusal} → a ≡ refused (number k) → Alike x x'
      → length out' ≡ length out → Visits Γ fn recording x out a x' out' (Err k)
  visits_refused e A s = record { alike = A; same = s; denied = λ n d. cc; over = λ m d. clash (cc) }

  -- and one that is over
  pub visits_over : {x x' : Arrays} {out out' : List ℕ} {a : Answer Memory} {m : Memory} {o : Out} → a ≡ done m → Alike x x' → length out' ≡ length out
      → Remembers Γ fn m x' → Spoken fn recording m.lines out' o → Visits Γ fn recording x out a x' out' (Ok o)
  visits_over {m} {o} e A s R S = record {
    alike = A;
    same = s;
    denied = λ n d. clash (cc);
    over = λ m' d. let z : m ≡ m' = cc in rw (← z) (o, refl, R, S);
  }

  -- one that begins with what was told
  pub visits_later : {x y x' : Arrays} {out out₁ out' : List ℕ} {a : Answer Memory} {v : Result Out Refusal} → Alike x y → length out₁ ≡ length out
      → Visits Γ fn recording y out₁ a x' out' v → Visits Γ fn recording x out a x' out' v
  visits_later A s N = record { alike = alike_then A N.alike; same = N.same ∙ s; denied = N.denied; over = N.over }

  module _ (n : ℕ) {b : ℕ} (l : b < nblocks fn) (E : Forest) (m : Memory) {x : Arrays} {out out' : List ℕ} where
    -- the items are refused
    pub enter_refused : {o : Out} {k : Refusal} {s : State} → Passes Γ fn out o out' (uses Γ fn false (stop fn b - start fn b) (start fn b) E) (Err k) s
        → Visits Γ fn recording x out (enters Γ fn recording (suc n) b E m) x out' (Err k)
    enter_refused {k = k} P = split_answer (uses Γ fn false (stop fn b - start fn b) (start fn b) E)
        (λ n e. let z : n ≡ number k = cc (P.denied n e) in visits_refused (enters_uses Γ fn recording _ b E m l ∙ rw (e, z) refl) (alike_same x) P.same)
        (λ w e. let d = (P.gone w e).fine in clash (cc))

    module _ (A : FunctionFacts fn) {w : Forest × List (Line At)} (u : uses Γ fn false (stop fn b - start fn b) (start fn b) E ≡ done w) {o q : Out}
        (T : Tells fn out o out' q w.1) where
      -- the block returns
      pub enter_over : {out'' : List ℕ} {q' : Out} {j : ℕ} → j ≡ stop fn b - 1 → returns fn b ≡ true → Remembers Γ fn m x → Spoken fn recording m.lines out o
          → Tells fn out' q out'' q' (mark j (folds_at_ret Γ (nargs fn) w.0))
          → Visits Γ fn recording x out (enters Γ fn recording (suc n) b E m) x out'' (Ok q')
      enter_over {out''} {q'} {j} d e R S U₁ =
          let U : Tells fn out' q out'' q' (mark (stop fn b - 1) (folds_at_ret Γ (nargs fn) w.0)) = rw d at U₁ in
          let ls = w.1 ++ mark (stop fn b - 1) (folds_at_ret Γ (nargs fn) w.0) in
          visits_over
          (enters_uses Γ fn recording n b E m l ∙ rw (u, ret_some Γ fn b w.0 e) (departs_none A l Γ recording n w.0 (telling recording ls m) e))
          (alike_same x) (tells_same U ∙ tells_same T) (told_remembers recording ls R) (rw (← told_more recording m.lines w.1 _) (spoken_told (spoken_told S T) U))

      -- and any other
      pub enter_leave : {x'' : Arrays} {out'' : List ℕ} {v : Result Out Refusal} → returns fn b ≡ false
          → Visits Γ fn recording x out' (departs Γ fn recording n b w.0 (telling recording w.1 m)) x'' out'' v
          → Visits Γ fn recording x out (enters Γ fn recording (suc n) b E m) x'' out'' v
      enter_leave {x''} {out''} {v} e N = rw (enters_uses Γ fn recording n b E m l, u, ret_none Γ fn b w.0 e, append-nil) (visits_later (alike_same x) (tells_same T) N)
