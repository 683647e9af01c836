-- What every function of a run asks of its records.
use Rattle.std.specs.Prelude.{◌≡◌, true, List, ℕ}
use Rattle.model.specs.Function.{function_ok}
use Rattle.model.specs.Block.{places_ok}
use Rattle.type_record.specs.Sizes.{Ready}
use Rattle.mir.specs.Sizes.{Formed}

-- both records pass refusals 1, 2 and 4, and os has the offsets of the parts
pub record Accepted (Γ os fn : List ℕ) : Type 0 where
  pub ready : Ready Γ os
  pub function : function_ok Γ fn ≡ true
  pub formed : Formed fn
  pub places : places_ok fn ≡ true
