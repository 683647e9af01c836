-- What every function of a run asks of its records and its state, and what holds in each state that stands there.
use Rattle.std.specs.Prelude.{◌≡◌, List, ℕ}
use Rattle.model.specs.Answer.{Answer, done}
use Rattle.model.specs.Tree.{Forest}
use Rattle.model.specs.Function.{local_types}
use Rattle.records.specs.Here.{Holds}
use Rattle.state.specs.Value.{value}
use Rattle.state.specs.declared.nodes.State.{State}

-- s holds some state
pub record Stated (Γ locals : List ℕ) (s : State) : Type 0 where
  pub state : Forest
  pub holds : Holds Γ locals (value s) state

-- P is true of each state of the function's locals that s holds
abbrev pub InEach : List ℕ → List ℕ → State → (Forest → Type 0) → Type 0
InEach Γ fn s P = (E : Forest) → Holds Γ (local_types fn) (value s) E → P E

-- where s holds a state that f does not refuse, s' holds what f gives of it
abbrev pub Becomes : List ℕ → List ℕ → (Forest → Answer Forest) → State → State → Type 0
Becomes Γ fn f s s' = InEach Γ fn s (λ E. (D : Forest) → f E ≡ done D → Holds Γ (local_types fn) (value s') D)
