-- No statement recorded holds an index. A projection's Fold is of the whole place (`fold_whole`; the source asserts
-- it): in a tree of a type an index stands at a folded node.
use Rattle.std.specs.Prelude.{◌≡◌, true, false, eqb}
use Rattle.std.proofs.Math.Path.{refl}
use Rattle.std.proofs.Common.{sym, ◌∙◌, true≢false, eqb-true}
use mathlib.Core.List.{List, [], ◌∷◌}
use Prim.Native.Nat.{ℕ, zero, suc}
use Rattle.model.specs.Answer.{done}
use Rattle.model.specs.Types.{kids, casts, kind}
use Rattle.model.specs.Tree.{unfolded, Tree, Forest, type}
use Rattle.model.specs.Typing.{Fit, Fits, fit_more, fit_node, fit_none, fit_leaf}
use Rattle.model.specs.Place.{later, first, index, downcast, deref, field, Place, Spot, no_index}
use Rattle.model.specs.Walk.{walk, opened, step, pick, wide, reached, branch, projection, folding, project_at, changed, project}
use Rattle.base.specs.Answer.{good_bind, good_same, good_done, Good, good_cond, good_self, good_refused}
use Rattle.base.specs.Each.{Each, each_more, each_map, each_none}
use Rattle.laws.specs.Typing.{fits_leaves}
use Rattle.laws.specs.Places.{base_no_index}
use Rattle.laws.specs.Steps.{cast_law, index_law, step_law}
use Rattle.laws.specs.Projected.{changed_goes}
use Rattle.laws.specs.Walked.{opened_fit, openable_cast}
use Rattle.laws.specs.Projection.{fitting_law}
use Rattle.laws.specs.Lifted.{Unindexed, UnindexedAt}

module _ (Γ : List ℕ) where
  -- a child of a tree of a type is one
  pick_fit : (i : ℕ) {ts : List ℕ} {ns : Forest} → Fits Γ ts ns → (t : ℕ) × Fit Γ t (pick i ns)
  pick_fit i fit_none = (0, fit_leaf)
  pick_fit zero (fit_more {t} f fs) = (t, f)
  pick_fit (suc i) (fit_more f fs) = pick_fit i fs

  -- of the node opened
  branch_fit : (i : ℕ) {t : ℕ} {s : Tree} → Fit Γ t s → (u : ℕ) × Fit Γ u (branch i (wide Γ 0 s))
  unfolding wide opened
  branch_fit i (fit_leaf {t}) = pick_fit i (fits_leaves (kids Γ t 0))
  branch_fit i (fit_node o fs) = pick_fit i fs

  -- a node opened at a variant that its type has
  wide_fit : (v : ℕ) {t : ℕ} {s : Tree} → Fit Γ t s → casts Γ (type s) v ≡ true → Fit Γ t (wide Γ v s)
  unfolding wide
  wide_fit v (fit_leaf {t}) e = opened_fit Γ (openable_cast Γ t v e)
  wide_fit v (fit_node o fs) e = fit_node o fs

  -- an array is folded
  array_folded : {t : ℕ} {s : Tree} → Fit Γ t s → eqb (kind Γ (type s)) 4 ≡ true → unfolded s ≡ false
  array_folded fit_leaf e = refl
  array_folded (fit_node {t} o fs) e = absurd (o.not_array (eqb-true (kind Γ t) 4 e))

  -- where the walk ends at an open node there is no index
  pub fold_whole : (p : Place) (s : Tree) → Good (λ u. (t : ℕ) → Fit Γ t s → unfolded (reached Γ p s) ≡ true → no_index p ≡ true) (walk Γ done p s)
  unfolding walk step reached
  fold_whole [] s = good_done (λ t g h. refl)
  fold_whole (deref ∷ p) s = good_same
      (λ u c t g h. let k = branch_fit 0 g in c.rel k.0 (rw c.old at k.1) (cc c.old))
      (step_law Γ deref refl (fold_whole p) s)
  fold_whole (field i ∷ p) s = good_same
      (λ u c t g h. let k = branch_fit i g in c.rel k.0 (rw c.old at k.1) (cc c.old))
      (step_law Γ (field i) refl (fold_whole p) s)
  fold_whole (downcast v ∷ p) s = good_bind (cast_law Γ v s) (λ n q. good_same
      (λ u c t g h. c t (rw q.opens at (wide_fit v g q.allowed)) (cc q.opens))
      (fold_whole p n))
  fold_whole (index ∷ p) s = good_bind (index_law Γ s) (λ n q. good_done (λ t g h. absurd (true≢false (sym h ∙ array_folded g q.1))))

-- RECORDED

module _ (Γ : List ℕ) where
  -- what a place used in a tree records
  project_unindexed : (p : Place) {t : ℕ} {s : Tree} → Fit Γ t s → Good (λ r. Each Unindexed r.1) (project Γ p s)
  unfolding project
  project_unindexed p {t} {s} f = good_bind (fold_whole Γ p s) (λ u q. good_cond _ (changed Γ p s)
      (λ e. good_done (each_more (base_no_index p (changed_goes Γ p s e)) each_none))
      (λ e. good_cond _ (unfolded (reached Γ p s))
      (λ d. good_bind (good_self (walk Γ folding p s)) (λ w c. good_done (each_more (q t f d) each_none)))
      (λ d. good_done each_none)))

  -- in one of several trees
  project_at_unindexed : (i : ℕ) (p : Place) {ts : List ℕ} {E : Forest} → Fits Γ ts E → Good (λ r. Each UnindexedAt r.1) (project_at Γ i p E)
  unfolding project_at
  project_at_unindexed i p fit_none = good_refused
  project_at_unindexed zero p (fit_more f fs) = good_bind (project_unindexed p f) (λ r h. good_done (each_map first (λ c k. k) h))
  project_at_unindexed (suc i) p (fit_more f fs) = good_bind (project_at_unindexed i p fs) (λ r h. good_done (each_map later (λ a k. k) h))

  -- what a place used records
  pub projection_unindexed : (q : Spot) {ts : List ℕ} {E : Forest} → Fits Γ ts E → Good (λ r. Each UnindexedAt r.1) (projection Γ q E)
  unfolding projection
  projection_unindexed q f = good_bind (project_at_unindexed q.local q.place f) (λ r h. good_bind (fitting_law Γ r.0) (λ D k. good_done h))
