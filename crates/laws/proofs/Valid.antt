-- Valid, continued from specs/Valid: theorems that rest on others.
use Rattle.std.specs.Prelude.{◌≡◌, true, List, ℕ, ◌≤◌}
use Rattle.model.specs.Tree.{Forest}
use Rattle.model.specs.Place.{steps, usable, Spot}
use Rattle.model.specs.Walk.{projection}
use Rattle.base.specs.Answer.{good_same, Good, good_and}
use Rattle.laws.specs.Projection.{projection_small}
use Rattle.laws.proofs.Projection.{projection_fits}
use Rattle.laws.proofs.Levels.{projection_levels}
use Rattle.laws.specs.Valid.{Valid}

module _ {Γ ts : List ℕ} where
  -- a place used
  pub projection_valid : {E : Forest} (q : Spot) → Valid Γ ts E → usable q.place ≡ true → steps q.place ≤ 63
      → Good (λ r. Valid Γ ts r.0) (projection Γ q E)
  projection_valid {E} q a u h = good_same (λ r k. record { fits = k.0; small = k.1.0; shallow = k.1.1 })
      (good_and (projection_fits Γ q E u a.fits) (good_and (projection_small Γ q E) (projection_levels Γ q E u h a.shallow)))
