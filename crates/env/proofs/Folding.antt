-- A fold carried out is a projection: it is refused as that is, and leaves what that leaves (`fold_projection`).
use mathlib.Core.Path.{◌≡◌, refl, sym, ◌∙◌, ap, subst}
use mathlib.Core.Bool.{true}
use mathlib.Core.List.{List, [], ◌∷◌, map}
use Prim.Native.Nat.{ℕ, zero, suc, ◌<◌}
use lib.ListN.{length}
use Rattle.std.specs.Prelude.{Ok, Err}
use Rattle.refusal.specs.Refusal.{number}
use Rattle.refusal.specs.declared.Refusal.{Refusal}
use Rattle.model.specs.Answer.{Answer, done, ◌>>=◌}
use Rattle.model.specs.Tree.{Tree, leaf, node, Forest, nil, more}
use Rattle.model.specs.Typing.{Fits}
use Rattle.model.specs.Place.{Elem, deref, field, downcast, index, Place, Spot, Statement, Fold, At, usable}
use Rattle.model.specs.Walk.{nth, child, inside, enter, step, walk, folding, pick, project, projection, carry, carry_at, fitting}
use Rattle.model.specs.Calls.{statement_at}
use Rattle.base.specs.Tests.{clash}
use Rattle.base.specs.Answer.{split_answer, refusal, refusal_map, refusal_refused, accepted_value, good_at}
use Rattle.laws.specs.Projected.{project_folds, project_accepted}
use Rattle.laws.specs.Recorded.{numbered}
use Rattle.walk.proofs.Frames.{put, nth_put}
use Rattle.state.specs.declared.nodes.State.{State}
use Rattle.env.specs.declared.project.Use.{Use}
use Rattle.env.specs.Answers.{usage, moved, Projects, carrying, Moves}
use Rattle.env.proofs.Answered.{moves_refused, moves_done}
use Rattle.env.proofs.Projecting.{with_these, project_at_put}

-- the state alone
abbrev pub alone : Forest × List At → Answer Forest
alone r = done r.0

-- REFUSALS DO NOT DEPEND ON WHAT IS DONE AT THE NODE REACHED

-- f and g are refused alike
abbrev Alike : (Tree → Answer Tree) → (Tree → Answer Tree) → Type 0
Alike f g = (s : Tree) → refusal (f s) ≡ refusal (g s)

module _ (f g : Tree → Answer Tree) (h : Alike f g) where
  -- in one tree of several
  nth_alike : (i : ℕ) (ns : Forest) → refusal (nth i f ns) ≡ refusal (nth i g ns)
  nth_alike i nil = refl
  nth_alike zero (more s ss) = refusal_map (f s) (λ u. more u ss) ∙ h s ∙ sym (refusal_map (g s) (λ u. more u ss))
  nth_alike (suc i) (more s ss) = refusal_map (nth i f ss) (more s) ∙ nth_alike i ss ∙ sym (refusal_map (nth i g ss) (more s))

  -- at a child
  child_alike : (i : ℕ) → Alike (child i f) (child i g)
  child_alike i (leaf t) = refl
  child_alike i (node t v ns) = refusal_map (nth i f ns) (node t v) ∙ nth_alike i ns ∙ sym (refusal_map (nth i g ns) (node t v))

  -- where an element leads
  inside_alike : (e : Elem) → Alike (inside e f) (inside e g)
  inside_alike deref = child_alike 0
  inside_alike (field i) = child_alike i
  inside_alike (downcast v) = h
  inside_alike index = h

  -- in a step
  step_alike : (Γ : List ℕ) (e : Elem) → Alike (step Γ e f) (step Γ e g)
  unfolding step
  step_alike Γ e s = split_answer (enter Γ e s) (λ n d. rw d) (λ x d. rw d (inside_alike e x))

-- in a walk
walk_alike : (Γ : List ℕ) (f g : Tree → Answer Tree) → Alike f g → (p : Place) → Alike (walk Γ f p) (walk Γ g p)
unfolding walk
walk_alike Γ f g h [] = h
walk_alike Γ f g h (deref ∷ p) = step_alike (walk Γ f p) (walk Γ g p) (walk_alike Γ f g h p) Γ deref
walk_alike Γ f g h (field i ∷ p) = step_alike (walk Γ f p) (walk Γ g p) (walk_alike Γ f g h p) Γ (field i)
walk_alike Γ f g h (downcast v ∷ p) = step_alike (walk Γ f p) (walk Γ g p) (walk_alike Γ f g h p) Γ (downcast v)
walk_alike Γ f g h (index ∷ p) = step_alike f g h Γ index

-- THE FOLD

module _ (Γ : List ℕ) where
  -- in a tree
  fold_project : (p : Place) (s : Tree) → usable p ≡ true → walk Γ folding p s ≡ project Γ p s >>= λ r. done r.0
  unfolding project
  fold_project p s u =
      split_answer (walk Γ done p s)
      (λ n e.
      let k : refusal (walk Γ folding p s) ≡ refusal (walk Γ done p s) = walk_alike Γ folding done (λ x. refl) p s in
      (refusal_refused (walk Γ folding p s) n).1 (k ∙ (refusal_refused (walk Γ done p s) n).0 e) ∙ rw e)
      (λ x e.
      let (r, k) = accepted_value (good_at (project_accepted Γ p s) e) in
      good_at (project_folds Γ p s u) k ∙ ap (λ (a : Answer (Tree × List Statement)). a >>= λ y. done y.0) (sym k))

  -- a test, and what is recorded dropped again
  fits_alone : (D : Forest) (as' : List At) → fitting Γ D ≡ fitting Γ D >>= with_these as' >>= alone
  fits_alone D as' = split_answer (fitting Γ D) (λ n e. rw e) (λ F e. rw e)

  -- in a state
  fold_projection : (locals : List ℕ) {ts : List ℕ} {E : Forest} → Fits Γ ts E → (q : Spot) → q.local < length ts → usable q.place ≡ true
      → carrying Γ locals Fold q E ≡ projection Γ q E >>= alone
  unfolding carrying carry_at carry statement_at projection
  fold_projection locals {E = E} fits q known u =
      let x : Tree = pick q.local E in
      let p : Place = q.place in
      rw (nth_put fits q.local known (walk Γ folding p), fold_project p x u, project_at_put fits q.local known p)
      (split_answer (project Γ p x) (λ n e. rw e) (λ r e. rw e (fits_alone (put q.local r.0 E) (map (numbered q.local) r.1))))

module _ {Γ locals : List ℕ} {s : State} {E : Forest} (fits : Fits Γ locals E) (q : Spot) (known : q.local < length locals) (u : usable q.place ≡ true) {m : ℕ} {r : State} where
  -- the projection is refused, and so is the fold: the state is as it was
  pub fold_refused : {n : Refusal} → Projects Γ locals s m (projection Γ q E) (usage (Err n) r) → Moves Γ locals s (carrying Γ locals Fold q E) (moved (Err n) r)
  fold_refused {n} P =
      split_answer (projection Γ q E)
      (λ k e.
      let same : k ≡ number n = cc P.answer in
      subst (λ (t : State). Moves Γ locals s (carrying Γ locals Fold q E) (moved (Err n) t)) (sym (P.kept k e))
      (moves_refused (fold_projection Γ locals fits q known u ∙ rw (e, same))))
      (λ w e. clash (cc P.answer))

  -- it is not, and leaves what the fold leaves
  pub fold_carried : {a : Use} → Projects Γ locals s m (projection Γ q E) (usage (Ok a) r) → Moves Γ locals s (carrying Γ locals Fold q E) (moved (Ok tt) r)
  fold_carried P =
      split_answer (projection Γ q E)
      (λ k e. clash (cc P.answer))
      (λ w e. moves_done (fold_projection Γ locals fits q known u ∙ rw e) (P.moved w e))
