-- Levels, continued from specs/Levels: theorems that rest on others.
use Rattle.std.specs.Prelude.{◌≡◌, true, List, ℕ, ◌≤◌}
use Rattle.std.proofs.Common.{arith}
use Rattle.model.specs.Tree.{Forest}
use Rattle.model.specs.Typing.{depths}
use Rattle.model.specs.State.{levels}
use Rattle.model.specs.Place.{steps, Spot, Statement, usable, Fold, At}
use Rattle.model.specs.Walk.{carries_at, walk, carry, folding, projection, carry_at}
use Rattle.base.specs.Answer.{Good, good_bind, good_at, good_done, good_same}
use Rattle.base.specs.Each.{each_more, Each, each_none}
use Rattle.laws.specs.Places.{Within}
use Rattle.laws.specs.Depth.{Deep}
use Rattle.laws.specs.Projection.{projection_folds}
use Rattle.laws.specs.Levels.{act_levels, nth_levels}

module _ (Γ : List ℕ) where
  -- a statement
  pub carry_levels : (c : Statement) → Within c.verb c.place → Deep levels (carry Γ c)
  unfolding carry
  carry_levels c h = act_levels Γ c.verb c.place h

  -- OF A STATE

  -- a place used
  pub projection_levels : (q : Spot) (E : Forest) → usable q.place ≡ true → steps q.place ≤ 63 → depths E ≤ levels
      → Good (λ r. depths r.0 ≤ levels) (projection Γ q E)
  projection_levels q E u h l =
      let f = walk Γ folding q.place in
      good_same (λ r e. good_at (nth_levels f (act_levels Γ Fold q.place (omega arith, u)) q.local E l) e) (projection_folds Γ q E u)

  -- statements
  pub carries_at_levels : {a : List At} → Each (λ c. Within c.what.verb c.what.place) a → (E : Forest) → depths E ≤ levels
      → Good (λ D. depths D ≤ levels) (carries_at Γ a E)
  unfolding carry_at
  carries_at_levels each_none E l = good_done l
  carries_at_levels (each_more {a = c} h hs) E l =
      good_bind (nth_levels (carry Γ c.what) (carry_levels c.what h) c.number E l) (λ D k. carries_at_levels hs D k)
