-- The projection of one tree: it leaves what a walk leaves that folds the node reached, and the statement recorded does the same.
-- Projection has the laws for a state.
use Rattle.std.specs.Prelude.{◌≡◌, false, ℕ}
use Rattle.std.proofs.Math.Path.{refl}
use Rattle.std.proofs.Common.{sym, true≢false}
use Rattle.std.proofs.Math.Bool.{true}
use mathlib.Core.List.{List, [], ◌∷◌}
use Rattle.model.specs.Answer.{done}
use Rattle.model.specs.Tree.{Tree, unfolded}
use Rattle.model.specs.Place.{base, Place, stops, deref, usable, downcast, index, field}
use Rattle.model.specs.Walk.{opening, step, carries, changed, carry, folding, project, walk, reached}
use Rattle.base.specs.Tests.{cond_split, split, clash}
use Rattle.base.specs.Answer.{accepted, good_self, good_same, Accepted, accept_bind, good_done, good_both, good_cond, Good, good_bind, good_and}
use Rattle.laws.specs.Steps.{index_law, step_law, cast_law}
use Rattle.laws.specs.Unchanged.{unchanged_same}
use Rattle.laws.specs.Base.{base_walk}
use Rattle.laws.specs.Ends.{fresh_end, folded_end}

module _ (Γ : List ℕ) where
  -- the projection leaves what a walk leaves that folds the node reached
  pub project_folds : (p : Place) (s : Tree) → usable p ≡ true
      → Good (λ r. walk Γ folding p s ≡ done r.0) (project Γ p s)
  unfolding project
  project_folds p s h = good_bind (good_and (fresh_end Γ p s h) (folded_end Γ p s)) (λ u q. good_cond _ (changed Γ p s)
      (λ e. good_done (q.1 (q.0 (λ d. e))))
      (λ e. good_cond _ (unfolded (reached Γ p s))
      (λ d. good_bind (good_self (walk Γ folding p s)) (λ w c. good_done c))
      (λ d. good_done (q.1 d))))

  -- a walk without a step changes nothing
  still_stopped : (p : Place) (s : Tree) → stops p ≡ true → changed Γ p s ≡ false
  unfolding changed
  still_stopped [] s h = refl
  still_stopped (deref ∷ p) s h = absurd (true≢false (sym h))
  still_stopped (field i ∷ p) s h = absurd (true≢false (sym h))
  still_stopped (downcast v ∷ p) s h = absurd (true≢false (sym h))
  still_stopped (index ∷ p) s h = refl

  -- a walk that changes something makes a step
  pub changed_goes : (p : Place) (s : Tree) → changed Γ p s ≡ true → stops p ≡ false
  changed_goes p s e = split (stops p) (λ d. clash (cc (still_stopped p s d))) (λ d. d)

  -- to unfold, where the walk has changed something
  based_changed : (p : Place) (s : Tree) → usable p ≡ true → Good (λ u. changed Γ p s ≡ true
      → walk Γ (opening Γ) (base p) s ≡ done u) (walk Γ done p s)
  based_changed p s h = split (changed Γ p s)
      (λ e. good_same (λ u c d. c) (base_walk Γ p s h (changed_goes p s e)))
      (λ e. good_same (λ u c d. clash (cc)) (good_self (walk Γ done p s)))

  -- the statement recorded, carried out on the tree before, gives the tree after
  pub project_carry : (p : Place) (s : Tree) → usable p ≡ true
      → Good (λ r. carries Γ r.1 s ≡ done r.0) (project Γ p s)
  unfolding project carry
  project_carry p s h = good_bind (good_and (based_changed p s h) (unchanged_same Γ p s)) (λ u q. good_cond _ (changed Γ p s)
      (λ e. good_done (cc (q.0 e)))
      (λ e. good_cond _ (unfolded (reached Γ p s))
      (λ d. good_bind (good_self (walk Γ folding p s)) (λ w c. good_done (cc)))
      (λ d. good_done (cc (q.1 e)))))

  -- where the walk is accepted, so is the walk that then folds, and the projection
  pub folding_accepted : (p : Place) (s : Tree) → Good (λ u. Accepted (walk Γ folding p s)) (walk Γ done p s)
  unfolding walk step
  folding_accepted [] s = good_done accepted
  folding_accepted (deref ∷ p) s = good_same (λ u c. c.accepts (walk Γ folding p) c.rel) (step_law Γ deref refl (folding_accepted p) s)
  folding_accepted (field i ∷ p) s = good_same (λ u c. c.accepts (walk Γ folding p) c.rel) (step_law Γ (field i) refl (folding_accepted p) s)
  folding_accepted (downcast v ∷ p) s = good_bind (good_both (cast_law Γ v s)) (λ n q. good_same (λ u c. rw q.1 c) (folding_accepted p n))
  folding_accepted (index ∷ p) s = good_bind (good_both (index_law Γ s)) (λ n q. good_done (rw q.1 accepted))

  -- and so is the projection
  pub project_accepted : (p : Place) (s : Tree) → Good (λ u. Accepted (project Γ p s)) (walk Γ done p s)
  unfolding project
  project_accepted p s = good_same (λ u q. rw q.1 (cond_split Accepted (changed Γ p s) (λ e. accepted) (λ e.
      cond_split Accepted (unfolded (reached Γ p s)) (λ d. accept_bind q.0 (λ w. accepted)) (λ d. accepted)))) (good_both (folding_accepted p s))
