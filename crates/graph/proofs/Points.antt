-- Points, continued from specs/Points: theorems that rest on others.
use Rattle.std.specs.Prelude.{ℕ}
use mathlib.Core.List.{List}
use borrow.Author.Tests.{ne_eqb}
use Rattle.model.specs.Body.{frame}
use Rattle.base.specs.Each.{each_same}
use Rattle.base.specs.Function.{FunctionFacts}
use Rattle.solver.specs.Laws.{Inside, Points}
use Rattle.graph.specs.Ranges.{owner}
use Rattle.graph.proofs.Ranges.{holds_owner, entry_alone}
use Rattle.graph.specs.Targets.{target_aims, targets_once}
use Rattle.graph.specs.Points.{Rests, body_ran, ran_rests}

module _ {fn : List ℕ} (A : FunctionFacts fn) (Γ : List ℕ) where
  -- it is inside its block
  pub rests_inside : {b i : ℕ} → Rests fn b i → Inside (frame Γ fn) (owner fn) b i
  unfolding frame
  rests_inside {b} {i} R = record {
    owned = holds_owner A R.holds;
    apart = λ x c h. ne_eqb i x (λ q. R.code (rw q (target_aims fn b h).code));
  }

  -- THE POINTS
  pub frame_points : Points (frame Γ fn) (owner fn)
  unfolding frame
  frame_points = record {
    owned = λ {b} h. holds_owner A (target_aims fn b h).holds;
    once = λ b. targets_once fn b;
    alone = λ b l. entry_alone A b l;
    inside = λ {b} {E} {w} e. each_same (λ l r. rests_inside r) (ran_rests A Γ (body_ran Γ fn e));
  }
