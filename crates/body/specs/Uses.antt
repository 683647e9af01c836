-- The places used by a run of items, by model's projection, and what the code leaves of it.
use Rattle.std.specs.Prelude.{◌≡◌, Bool, true, false, List, [], ◌++◌, ℕ, zero, suc, ◌-◌, ◌≤◌, ◌<◌, length, Result, Ok}
use Rattle.model.specs.Answer.{Answer, refused, done, ◌>>=◌}
use Rattle.model.specs.Tree.{Forest}
use Rattle.model.specs.Place.{At}
use Rattle.model.specs.Walk.{projection}
use Rattle.model.specs.Function.{nitems, local_types}
use Rattle.model.specs.Block.{spot_before, uses_place}
use Rattle.model.specs.Frame.{Line, mark}
use Rattle.records.specs.Here.{Holds}
use Rattle.refusal.specs.Refusal.{answered}
use Rattle.refusal.specs.declared.Refusal.{Refusal}
use Rattle.state.specs.Value.{value}
use Rattle.state.specs.declared.nodes.State.{State}
use Rattle.statements.specs.Points.{point, Tells}
use Rattle.statements.specs.declared.Out.{Out}
use Rattle.body.specs.declared.items.Items.{Items}
use Rattle.state.specs.Given.{InEach}

-- THE ITEMS

-- i is an item with another before it
abbrev pub Preceded : List ℕ → ℕ → Type 0
Preceded fn i = (0 < i) × (i < nitems fn)

-- these items stand in the function's record
pub record Within (fn : List ℕ) (w : Items) : Type 0 where
  pub order : w.from ≤ w.end
  pub inside : w.end ≤ nitems fn

module _ (Γ fn : List ℕ) where
  -- n items from i on: the state after, and what is recorded, each at its item or all at the entry
  unfoldable pub uses : Bool → ℕ → ℕ → Forest → Answer (Forest × List (Line At))
  uses entry zero i E = done (E, [])
  uses entry (suc n) i E = elim (uses_place fn i) [
    | true ↦ projection Γ (spot_before fn i) E >>= λ r. uses entry n (suc i) r.0 >>= λ w. done (w.0, mark (point fn entry i) r.1 ++ w.1)
    | false ↦ uses entry n (suc i) E
  ]

  -- these items
  abbrev pub run_of : Items → Forest → Answer (Forest × List (Line At))
  run_of w = uses w.entry (w.end - w.from) w.from

-- WHAT IS LEFT

-- the state and the lines of a run of items that is not refused: s, and what r has recorded
pub record Gone (Γ fn : List ℕ) (out : List ℕ) (o : Out) (out' : List ℕ) (w : Forest × List (Line At)) (r : Result Out Refusal) (s : State) : Type 0 where
  pub told : Out
  pub fine : r ≡ Ok told
  pub state : Holds Γ (local_types fn) (value s) w.0
  pub lines : Tells fn out o out' told w.1

-- the code's r and s are model's a
pub record Passes (Γ fn : List ℕ) (out : List ℕ) (o : Out) (out' : List ℕ) (a : Answer (Forest × List (Line At))) (r : Result Out Refusal) (s : State) : Type 0 where
  pub same : length out' ≡ length out
  pub denied : (n : ℕ) → a ≡ refused n → answered r ≡ refused n
  pub gone : (w : Forest × List (Line At)) → a ≡ done w → Gone Γ fn out o out' w r s

-- from each state of s on, r and s' are what model's run f comes to
abbrev pub Runs : List ℕ → List ℕ → (Forest → Answer (Forest × List (Line At))) → State → List ℕ → Out → List ℕ → Result Out Refusal → State → Type 0
Runs Γ fn f s out o out' r s' = InEach Γ fn s (λ E. Passes Γ fn out o out' (f E) r s')
