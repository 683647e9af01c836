-- Projection, continued from specs/Projection: theorems that rest on others.
use Rattle.std.specs.Prelude.{◌≡◌, true, List}
use Prim.Native.Nat.{ℕ}
use Rattle.model.specs.Answer.{done}
use Rattle.model.specs.Tree.{Forest}
use Rattle.model.specs.Typing.{Fits}
use Rattle.model.specs.Place.{Spot, usable}
use Rattle.model.specs.Walk.{walk, projection}
use Rattle.model.specs.Replay.{Quiet}
use Rattle.base.specs.Answer.{good_at, good_same, Good}
use Rattle.laws.specs.Steps.{nth_law, swap_again, swap_new}
use Rattle.laws.specs.Ends.{folding_again}
use Rattle.laws.specs.Walked.{nth_fit, walk_fit, folding_fit}
use Rattle.laws.specs.Projection.{projection_folds}

module _ (Γ : List ℕ) where
  module _ (q : Spot) (E : Forest) (h : usable q.place ≡ true) where
    -- the place used is quiet afterwards
    pub projection_quiet : Good (λ r. Quiet Γ q r.0) (projection Γ q E)
    projection_quiet = good_same (λ r e.
        let k = good_at (nth_law (λ x. folding_again Γ q.place x h) q.local E) e in
        record {
          walks = swap_again k.3 (walk Γ done q.place) k.2.walks;
          unchanged = cc (swap_new k.3, k.2.same);
          folded = cc (swap_new k.3, k.2.ends);
        })
        (projection_folds Γ q E h)

    -- the types are kept
    pub projection_fits : {ts : List ℕ} → Fits Γ ts E → Good (λ r. Fits Γ ts r.0) (projection Γ q E)
    projection_fits f = good_same (λ r e. good_at (nth_fit Γ (walk_fit Γ (folding_fit Γ) q.place) q.local f) e) (projection_folds Γ q E h)
