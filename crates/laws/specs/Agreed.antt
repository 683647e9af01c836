-- Rules of document 01 that the definitions have no case for, since they hold of themselves.
-- "If the walked place ends in downcast that is all" (Unfold): `unfold_cast`. And a match arm's own unfolding is a walk of the
-- place with the downcast: `arm_walk`.
use Rattle.std.specs.Prelude.{◌≡◌, ℕ, zero, suc, eqb}
use Rattle.std.proofs.Math.Path.{refl, sym}
use Rattle.std.proofs.Math.Bool.{true}
use Rattle.std.proofs.Common.{true≢false}
use mathlib.Core.List.{List, [], ◌∷◌, ◌++◌}
use Rattle.model.specs.Answer.{Answer, done}
use Rattle.model.specs.Types.{casts, kids, kind}
use Rattle.model.specs.Tree.{Tree, leaf, node, Forest, nil, more, leaves}
use Rattle.model.specs.Place.{Elem, deref, field, downcast, index, Place, stops, no_index}
use Rattle.model.specs.Walk.{nth, child, inside, opened, enter, step, walk, opening}
use Rattle.base.specs.Tests.{split}
use Rattle.base.specs.Answer.{bind_same, bind_done}
use Rattle.laws.specs.Places.{ends_cast}

-- two that do the same at every tree do the same at one of several
nth_same : {f g : Tree → Answer Tree} → ((x : Tree) → f x ≡ g x) → (i : ℕ) (ns : Forest) → nth i f ns ≡ nth i g ns
nth_same h i nil = refl
nth_same h zero (more s ss) = cc (h s)
nth_same h (suc i) (more s ss) = cc (nth_same h i ss)

-- at a child
child_same : {f g : Tree → Answer Tree} → ((x : Tree) → f x ≡ g x) → (i : ℕ) (s : Tree) → child i f s ≡ child i g s
child_same h i (leaf t) = refl
child_same h i (node t v ns) = cc (nth_same h i ns)

-- behind an element
inside_same : (e : Elem) {f g : Tree → Answer Tree} → ((x : Tree) → f x ≡ g x) → (s : Tree) → inside e f s ≡ inside e g s
inside_same deref h s = child_same h 0 s
inside_same (field i) h s = child_same h i s
inside_same (downcast v) h s = h s
inside_same index h s = h s

module _ (Γ : List ℕ) where
  -- in a step
  step_same : (e : Elem) {f g : Tree → Answer Tree} → ((x : Tree) → f x ≡ g x) → (s : Tree)
      → step Γ e f s ≡ step Γ e g s
  unfolding step
  step_same e h s = bind_same (enter Γ e s) (inside_same e h)

  -- at an open node, to open is nothing
  open_here : (p : Place) (t v : ℕ) (ns : Forest) → stops p ≡ true
      → walk Γ (opening Γ) p (node t v ns) ≡ walk Γ done p (node t v ns)
  unfolding walk step enter opening
  open_here [] t v ns h = refl
  open_here (deref ∷ p) t v ns h = absurd (true≢false (sym h))
  open_here (field i ∷ p) t v ns h = absurd (true≢false (sym h))
  open_here (downcast w ∷ p) t v ns h = absurd (true≢false (sym h))
  open_here (index ∷ p) t v ns h = split (eqb (kind Γ t) 4) (λ e. cc) (λ e. cc)

  -- so where the walk ends in a downcast
  cast_here : (v : ℕ) (p : Place) (s : Tree) → stops p ≡ true
      → step Γ (downcast v) (walk Γ (opening Γ) p) s
      ≡ step Γ (downcast v) (walk Γ done p) s
  unfolding step enter opened
  cast_here v p (leaf t) h = split (casts Γ t v) (λ e. cc (open_here p t v (leaves (kids Γ t v)) h)) (λ e. cc)
  cast_here v p (node t w ns) h = split (casts Γ t v)
      (λ e. split (eqb v w) (λ d. cc (open_here p t w ns h)) (λ d. cc))
      (λ e. cc)

  -- Unfold of a place that ends in downcast is its walk
  pub unfold_cast : (p : Place) (s : Tree) → ends_cast p ≡ true
      → walk Γ (opening Γ) p s ≡ walk Γ done p s
  unfolding walk
  unfold_cast [] s h = absurd (true≢false (sym h))
  unfold_cast (deref ∷ p) s h = step_same deref (λ x. unfold_cast p x h) s
  unfold_cast (field i ∷ p) s h = step_same (field i) (λ x. unfold_cast p x h) s
  unfold_cast (downcast v ∷ p) s h = split (stops p) (λ e. cast_here v p s e) (λ e. step_same (downcast v) (λ x. unfold_cast p x (cc)) s)
  unfold_cast (index ∷ p) s h = absurd (true≢false (sym h))

  -- a match arm walks its place and one element more
  pub arm_walk : (v : ℕ) (p : Place) (s : Tree) → no_index p ≡ true
      → walk Γ (enter Γ (downcast v)) p s ≡ walk Γ done (p ++ (downcast v ∷ [])) s
  unfolding walk step
  arm_walk v [] s h = sym (bind_done (enter Γ (downcast v) s))
  arm_walk v (deref ∷ p) s h = step_same deref (λ x. arm_walk v p x h) s
  arm_walk v (field i ∷ p) s h = step_same (field i) (λ x. arm_walk v p x h) s
  arm_walk v (downcast w ∷ p) s h = step_same (downcast w) (λ x. arm_walk v p x h) s
  arm_walk v (index ∷ p) s h = absurd (true≢false (sym h))
