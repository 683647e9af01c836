-- What the calls within a run ask of their state and place.
use Rattle.std.specs.Prelude.{◌≡◌, Bool, true, List, ℕ, ◌<◌, ◌≤◌, length}
use Rattle.std.proofs.Math.Option.{some}
use Rattle.model.specs.Tree.{Forest, sizes}
use Rattle.model.specs.State.{locals_ok}
use Rattle.model.specs.Place.{Spot}
use Rattle.model.specs.Walk.{pick}
use Rattle.model.specs.Collect.{firsts}
use Rattle.model.specs.Calls.{spot_of}
use Rattle.records.specs.Here.{Holds}
use Rattle.type_record.specs.Sizes.{Ready}
use Rattle.state.specs.Value.{value, state_in}
use Rattle.state.specs.declared.nodes.State.{State}
use Rattle.walk.specs.Site.{Site}
use Rattle.walk.specs.declared.along.Walk.{Walk}

-- s holds a state, and the items are a place that passes the test
pub record Given (Γ locals : List ℕ) (s : State) (ops args : List ℕ) (ok : Spot → Bool) : Type 0 where
  pub state : Forest
  pub holds : Holds Γ locals (value s) state
  pub spot : Spot
  pub is : spot_of ops args ≡ some spot
  pub passes : ok spot ≡ true

-- what a call within a run asks: os has the offsets of the parts, the local types pass, and the state and place are given
abbrev pub Asked : (Γ os locals : List ℕ) → State → (ops args : List ℕ) → (Spot → Bool) → Type 0
Asked Γ os locals s ops args ok = Ready Γ os × ((locals_ok Γ locals ≡ true) × Given Γ locals s ops args ok)

-- the same where the number of nodes is not told: there is one
abbrev pub AskedIn : (Γ os locals fs ws ops args : List ℕ) → (Spot → Bool) → Type 0
AskedIn Γ os locals fs ws ops args ok = Ready Γ os × ((locals_ok Γ locals ≡ true) × ((n : ℕ) × Given Γ locals (state_in fs ws n) ops args ok))

-- the walk of the place, in the tree of its local, has ended at w
pub record Sited (Γ : List ℕ) (s : State) (ops args : List ℕ) (w : Walk) : Type 0 where
  pub locals : List ℕ
  pub state : Forest
  pub holds : Holds Γ locals (value s) state
  pub spot : Spot
  pub is : spot_of ops args ≡ some spot
  pub known : spot.local < length locals
  pub short : length spot.place ≤ 128
  pub site : Site Γ s.forms s.whats ops args (sizes (firsts spot.local state)) spot.place (pick spot.local state) w
