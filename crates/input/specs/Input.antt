-- What the test of a type record and of local types finds.
use Rattle.std.specs.Prelude.{◌≡◌, true, cond, List, ℕ}
use Rattle.model.specs.Types.{types_ok}
use Rattle.model.specs.State.{locals_ok}
use Rattle.type_record.specs.Sizes.{Ready}

-- 0, or refusal 1 or 3; where it is 0, os has the offsets of the parts
pub record Checked (Γ locals os : List ℕ) (r : ℕ) : Type 0 where
  pub answer : r ≡ cond (types_ok Γ) (cond (locals_ok Γ locals) 0 3) 1
  pub ready : r ≡ 0 → Ready Γ os
  pub typed : r ≡ 0 → locals_ok Γ locals ≡ true
