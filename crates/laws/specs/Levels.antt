-- Within refusal 4's limits on places, all that is done with a state keeps the limit on levels: `depths E ≤ levels`.
use Rattle.std.specs.Prelude.{List, ℕ, ◌≤◌, eqb}
use Rattle.std.proofs.Common.{arith}
use Rattle.model.specs.Answer.{Answer, done}
use Rattle.model.specs.Types.{shut, kind}
use Rattle.model.specs.Tree.{node, Tree, leaf, Forest, type}
use Rattle.model.specs.Typing.{depth, depths}
use Rattle.model.specs.State.{levels}
use Rattle.model.specs.Place.{steps, Unfold, Spot, Verb, Fold, Place, downcast}
use Rattle.model.specs.Walk.{act, enter, opening, walk, nth, folding, cast_at}
use Rattle.base.specs.Tests.{clash}
use Rattle.base.specs.Answer.{Good, good_refused, good_done, good_cond, good_same}
use Rattle.laws.specs.Places.{Within}
use Rattle.laws.specs.Depth.{enter_deep, Deep, opened_depth, nth_deep, walk_deep}

-- what opens few levels opens no more
deep_more : {m n : ℕ} (f : Tree → Answer Tree) → m ≤ n → Deep m f → Deep n f
deep_more f h d s = good_same (λ u k. omega arith) (d s)

-- to do nothing opens no level
done_deep : Deep 0 done
done_deep s = good_done {a = s} (omega arith)

-- nor does to fold
folding_deep : Deep 0 folding
unfolding depth
folding_deep s = good_done {a = leaf (type s)} (omega arith)

-- on one tree of several
pub nth_levels : (f : Tree → Answer Tree) → Deep levels f → (i : ℕ) (E : Forest) → depths E ≤ levels → Good (λ D. depths D ≤ levels) (nth i f E)
nth_levels f h i E l = good_same (λ D k. omega arith) (nth_deep levels f h i E)

module _ (Γ : List ℕ) where
  -- to open opens one
  opening_deep : Deep 1 (opening Γ)
  unfolding opening
  opening_deep (leaf t) = good_cond _ (shut (kind Γ t)) (λ e. good_refused)
      (λ e. good_cond _ (eqb (kind Γ t) 7) (λ d. good_refused) (λ d. good_done (omega (arith, opened_depth Γ t 0))))
  opening_deep (node t v ns) = good_done {a = node t v ns} (omega arith)

  -- OF ONE TREE

  -- a walk
  pub walk_levels : (p : Place) → steps p ≤ 63 → Deep levels (walk Γ done p)
  walk_levels p h = deep_more (walk Γ done p) (omega arith) (walk_deep Γ 1 done (deep_more done (omega arith) done_deep) p (λ e. omega arith))

  -- a match arm
  pub cast_levels : (v : ℕ) (p : Place) → steps p ≤ 63 → Deep levels (walk Γ (enter Γ (downcast v)) p)
  cast_levels v p h =
      let f = enter Γ (downcast v) in
      deep_more (walk Γ f p) (omega arith) (walk_deep Γ 1 f (enter_deep Γ (downcast v)) p (λ e. omega arith))

  -- what a statement does at the place
  pub act_levels : (w : Verb) (p : Place) → Within w p → Deep levels (walk Γ (act Γ w) p)
  act_levels Fold p h = deep_more (walk Γ folding p) (omega arith) (walk_deep Γ 0 folding folding_deep p (λ e. clash (cc h.1)))
  act_levels Unfold p h = deep_more (walk Γ (opening Γ) p) (omega arith) (walk_deep Γ 1 (opening Γ) opening_deep p (λ e. omega arith))

  -- OF A STATE

  -- a match arm
  pub cast_at_levels : (q : Spot) (v : ℕ) (E : Forest) → steps q.place ≤ 63 → depths E ≤ levels
      → Good (λ D. depths D ≤ levels) (cast_at Γ q v E)
  unfolding cast_at
  cast_at_levels q v E h l = nth_levels (walk Γ (enter Γ (downcast v)) q.place) (cast_levels v q.place h) q.local E l
