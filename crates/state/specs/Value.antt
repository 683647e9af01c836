-- The code's `State` as model has it, and the one that two arrays hold.
use Rattle.std.specs.Prelude.{List, ℕ}
use Rattle.model.specs.State as Model
use Rattle.state.specs.declared.nodes.State.{State}

abbrev pub value : State → Model.State
value s = record { forms = s.forms; whats = s.whats; nodes = s.nodes }

-- the state of two arrays, with n nodes
abbrev pub state_in : List ℕ → List ℕ → ℕ → State
state_in fs ws n = record { forms = fs; whats = ws; nodes = n }
