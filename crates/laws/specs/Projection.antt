-- The laws of a place used in a state, and of a match arm's downcast. What is carried out on the state before gives the state
-- after; then the place is quiet: it walks without refusal or change, and ends on a folded node. Typing is kept.
use Rattle.std.specs.Prelude.{◌≡◌, refl, true, List, leb}
use Prim.Native.Nat.{ℕ, zero, suc, ◌≤◌}
use borrow.Author.Tests.{leb-true}
use Rattle.model.specs.Answer.{done}
use Rattle.model.specs.Tree.{Forest, more, sizes, nil}
use Rattle.model.specs.Typing.{Fits}
use Rattle.model.specs.State.{most}
use Rattle.model.specs.Place.{Spot, Place, downcast, usable}
use Rattle.model.specs.Walk.{walk, cast_at, carries_at, downcasting, folding, fitting, nth, projection, project_at}
use Rattle.base.specs.Answer.{good_self, good_bind, good_same, Good, good_require, good_refused, good_done}
use Rattle.laws.specs.Hops.{later_run, first_run}
use Rattle.laws.specs.Projected.{project_carry, project_folds}
use Rattle.laws.specs.Walked.{enter_fit, nth_fit, walk_fit}

module _ (Γ : List ℕ) where
  -- a state that fits is as it was
  pub fitting_law : (E : Forest) → Good (λ D. (D ≡ E) × (sizes D ≤ most)) (fitting Γ E)
  unfolding fitting
  fitting_law E = good_require _ (leb (sizes E) most) 9 (λ _. done E) (λ e. good_done (refl, leb-true (sizes E) most e))

  -- the projection leaves what a walk leaves that folds the node reached
  project_at_folds : (i : ℕ) (p : Place) (E : Forest) → usable p ≡ true
      → Good (λ r. nth i (walk Γ folding p) E ≡ done r.0) (project_at Γ i p E)
  unfolding project_at
  project_at_folds i p nil h = good_refused
  project_at_folds zero p (more s ss) h = good_bind (project_folds Γ p s h) (λ r e. good_done (cc))
  project_at_folds (suc i) p (more s ss) h = good_bind (project_at_folds i p ss h) (λ r e. good_done (cc))

  -- what is recorded leaves it too
  project_at_carry : (i : ℕ) (p : Place) (E : Forest) → usable p ≡ true
      → Good (λ r. carries_at Γ r.1 E ≡ done r.0) (project_at Γ i p E)
  unfolding project_at
  project_at_carry i p nil h = good_refused
  project_at_carry zero p (more s ss) h = good_bind (project_carry Γ p s h) (λ r e. good_done (first_run Γ r.1 s ss e))
  project_at_carry (suc i) p (more s ss) h = good_bind (project_at_carry i p ss h) (λ r e. good_done (later_run Γ r.1 s ss e))

  module _ (q : Spot) (E : Forest) (h : usable q.place ≡ true) where
    -- the projection of a state leaves what a walk leaves that folds the node reached
    pub projection_folds : Good (λ r. nth q.local (walk Γ folding q.place) E ≡ done r.0) (projection Γ q E)
    unfolding projection
    projection_folds = good_bind (project_at_folds q.local q.place E h) (λ r e. good_bind (fitting_law r.0) (λ D k. good_done (cc)))

    -- the statements recorded, carried out on the state before, give the state after
    pub projection_carry : Good (λ r. carries_at Γ r.1 E ≡ done r.0) (projection Γ q E)
    unfolding projection
    projection_carry = good_bind (project_at_carry q.local q.place E h) (λ r e. good_bind (fitting_law r.0) (λ D k. good_done (cc)))

  -- the state after has 512 nodes at the most
  pub projection_small : (q : Spot) (E : Forest) → Good (λ r. sizes r.0 ≤ most) (projection Γ q E)
  unfolding projection
  projection_small q E = good_bind (good_self (project_at Γ q.local q.place E)) (λ r e. good_bind (fitting_law r.0) (λ D k. good_done k.1))

  -- A MATCH ARM

  -- the types are kept
  pub cast_fits : (q : Spot) (v : ℕ) {ts : List ℕ} {E : Forest} → Fits Γ ts E → Good (Fits Γ ts) (cast_at Γ q v E)
  unfolding cast_at
  cast_fits q v f = nth_fit Γ (walk_fit Γ (enter_fit Γ (downcast v)) q.place) q.local f

  -- in a run it is the same, within 512 nodes
  pub downcasting_cast : (q : Spot) (v : ℕ) (E : Forest) → Good (λ D. (cast_at Γ q v E ≡ done D) × (sizes D ≤ most)) (downcasting Γ q v E)
  unfolding downcasting
  downcasting_cast q v E = good_bind (good_self (cast_at Γ q v E)) (λ C e. good_same (λ D k. (cc, k.1)) (fitting_law C))
