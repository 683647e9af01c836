-- A part of `variant_ok`: no variant before j has the discriminant of variant j.
use Rattle.std.specs.Prelude.{Bool, not, List, ℕ, eqb}
use Rattle.model.specs.Words.{all}
use Rattle.model.specs.Types.{discriminant}

unfoldable pub value_fresh : List ℕ → ℕ → ℕ → Bool
value_fresh Γ t j = all (λ i. not (eqb (discriminant Γ t i) (discriminant Γ t j))) j
