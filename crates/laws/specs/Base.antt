-- The walked place and the place without its last element: to carry out Unfold there is to walk the place.
use Rattle.std.specs.Prelude.{◌≡◌, ℕ, eqb}
use Rattle.std.proofs.Math.Path.{refl}
use Rattle.std.proofs.Common.{sym, true≢false}
use Rattle.std.proofs.Math.Bool.{true, false}
use mathlib.Core.List.{List, [], ◌∷◌}
use Rattle.model.specs.Answer.{done, refused, Answer}
use Rattle.model.specs.Types.{kind}
use Rattle.model.specs.Tree.{Tree, node, Forest}
use Rattle.model.specs.Place.{base, Place, stops, deref, Elem, usable, downcast, index, field}
use Rattle.model.specs.Walk.{enter, opening, step, walk}
use Rattle.base.specs.Tests.{split}
use Rattle.base.specs.Answer.{good_same, good_done, good_both, Good, good_none, good_bind}
use Rattle.laws.specs.Places.{ended, usable_cast}
use Rattle.laws.specs.Steps.{Cast, index_law, step_law, cast_law, cast_no_array, moves}

module _ (Γ : List ℕ) where
  -- a walk that is at its end
  stopped : (p : Place) (s : Tree) → stops p ≡ true → Good (λ n. n ≡ s) (walk Γ done p s)
  unfolding walk step
  stopped [] s h = good_done refl
  stopped (deref ∷ p) s h = absurd (true≢false (sym h))
  stopped (field i ∷ p) s h = absurd (true≢false (sym h))
  stopped (downcast v ∷ p) s h = absurd (true≢false (sym h))
  stopped (index ∷ p) s h = good_bind (index_law Γ s) (λ n q. good_done q.0)

  -- no walk ends at an index below an open node that is no array
  pub barred : (act : Tree → Answer Tree) (p : Place) (t v : ℕ) (ns : Forest) → stops p ≡ true → ended p ≡ false → eqb (kind Γ t) 4 ≡ false
      → walk Γ act p (node t v ns) ≡ refused 5
  unfolding walk step enter
  barred act [] t v ns h d e = absurd (true≢false d)
  barred act (deref ∷ p) t v ns h d e = absurd (true≢false (sym h))
  barred act (field i ∷ p) t v ns h d e = absurd (true≢false (sym h))
  barred act (downcast w ∷ p) t v ns h d e = absurd (true≢false (sym h))
  barred act (index ∷ p) t v ns h d e = cc

  -- so a place that goes on from a downcast is not at its end
  pub barred_cast : (act : Tree → Answer Tree) {v : ℕ} (p : Place) {s n : Tree} → Cast Γ v s n → stops p ≡ true → ended p ≡ false
      → walk Γ act p n ≡ refused 5
  barred_cast act {v} p q h d =
      let t = q.shape.0 in
      cc (q.shape.2, barred act p t v q.shape.1 h d (cast_no_array Γ t v q.shape.3))

  -- a walk begins with a step
  pub walk_step : (e : Elem) → moves e ≡ true → (act : Tree → Answer Tree) (p : Place) (s : Tree)
      → walk Γ act (e ∷ p) s ≡ step Γ e (walk Γ act p) s
  unfolding walk
  walk_step deref m act p s = refl
  walk_step (field i) m act p s = refl
  walk_step (downcast v) m act p s = absurd (true≢false (sym m))
  walk_step index m act p s = absurd (true≢false (sym m))

  -- to open the node before the last step is to make the last step
  base_child : (e : Elem) → moves e ≡ true → (p : Place) (s : Tree)
      → ((x : Tree) → stops p ≡ false → Good (λ y. walk Γ (opening Γ) (base p) x ≡ done y) (walk Γ done p x))
      → Good (λ u. walk Γ (opening Γ) (base (e ∷ p)) s ≡ done u) (step Γ e (walk Γ done p) s)
  unfolding walk
  base_child e m p s h =
      let o = opening Γ in
      split (stops p)
      (λ d. good_same (λ u c. cc (c.opens c.rel)) (step_law Γ e m (λ x. stopped p x d) s))
      (λ d. good_same (λ u c. cc (c.run (walk Γ o (base p)) c.rel, walk_step e m o (base p) s))
      (step_law Γ e m (λ x. h x d) s))

  -- to unfold at the place without its last element is to walk the place
  pub base_walk : (p : Place) (s : Tree) → usable p ≡ true → stops p ≡ false
      → Good (λ u. walk Γ (opening Γ) (base p) s ≡ done u) (walk Γ done p s)
  unfolding walk step
  base_walk [] s h d = absurd (true≢false d)
  base_walk (deref ∷ p) s h d = base_child deref refl p s (λ x. base_walk p x h)
  base_walk (field i ∷ p) s h d = base_child (field i) refl p s (λ x. base_walk p x h)
  base_walk (downcast v ∷ p) s h d = good_bind (good_both (cast_law Γ v s)) (λ n q. split (stops p)
      (λ e. good_none (barred_cast done p q.0 e (usable_cast v p h).1))
      (λ e. good_same (λ u c. cc q.1) (base_walk p n (usable_cast v p h).0 e)))
  base_walk (index ∷ p) s h d = absurd (true≢false d)
