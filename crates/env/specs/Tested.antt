-- What the calls for users test before they go on.
use Rattle.std.specs.Prelude.{◌≡◌, Bool, false, cond, List, ℕ}
use Rattle.std.proofs.Math.Option.{Option, none, some}
use Rattle.model.specs.Types.{types_ok}
use Rattle.model.specs.State.{State, decode, locals_ok}
use Rattle.model.specs.Place.{Spot, used_ok, fold_ok, unfold_ok}
use Rattle.model.specs.Calls.{spot_of}
use Rattle.mir.specs.Parts.{is_some}
use Rattle.type_record.specs.Sizes.{Ready}
use Rattle.env.specs.declared.Aim.{Aim}
use Rattle.env.specs.declared.Aim.TheVariants.{Uses, Folds, Unfolds}

-- the limits of the place of a call, with so many locals
abbrev pub limits : Aim → ℕ → Spot → Bool
limits Uses = used_ok
limits Folds = fold_ok
limits Unfolds = unfold_ok

-- there is a place, and it passes the test
abbrev pub passes : (Spot → Bool) → Option Spot → Bool
passes ok none = false
passes ok (some q) = ok q

-- 0, or refusal 1, 3 or 4; where it is 0, os has the offsets of the parts
pub record Tested (Γ locals os : List ℕ) (s : State) (ops args : List ℕ) (ok : Spot → Bool) (r : ℕ) : Type 0 where
  pub answer : r ≡ cond (types_ok Γ) (cond (locals_ok Γ locals) (cond (is_some (decode Γ locals s)) (cond (passes ok (spot_of ops args)) 0 4) 3) 3) 1
  pub ready : r ≡ 0 → Ready Γ os
