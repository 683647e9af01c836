-- The walk's flag `changed`: a walk has changed nothing exactly if it leaves the tree as it was.
use Rattle.std.specs.Prelude.{◌≡◌, false, not, ◌||◌, ℕ}
use Rattle.std.proofs.Math.Path.{refl}
use Rattle.std.proofs.Common.{sym, true≢false}
use Rattle.std.proofs.Math.Bool.{true}
use mathlib.Core.List.{List, [], ◌∷◌}
use Rattle.std.proofs.lemmas.Bool.{not-false}
use Rattle.model.specs.Answer.{done}
use Rattle.model.specs.Tree.{Tree, leaf, unfolded, node, Forest}
use Rattle.model.specs.Place.{Place, deref, Elem, downcast, index, field}
use Rattle.model.specs.Walk.{next, step, changed, walk, wide, pick, nth}
use Rattle.base.specs.Tests.{or_left, or_right}
use Rattle.base.specs.Answer.{good_same, good_done, Good, good_bind, good_and}
use Rattle.laws.specs.Steps.{Child, index_law, step_law, cast_law, swap_old, nth_law, swap_same}

module _ (Γ : List ℕ) where
  -- to open an open node is nothing
  wide_open : (v : ℕ) (s : Tree) → unfolded s ≡ true → wide Γ v s ≡ s
  unfolding wide
  wide_open v (leaf t) h = absurd (true≢false (sym h))
  wide_open v (node t w ns) h = refl

  -- a walk that has changed nothing
  module _ (e : Elem) (p : Place) (s : Tree) where
    -- no node is opened, here or later
    still : not (unfolded s) || changed Γ p (next Γ e s) ≡ false
        → (unfolded s ≡ true) × (changed Γ p (next Γ e s) ≡ false)
    still h =
        let a = not (unfolded s) in
        let b = changed Γ p (next Γ e s) in
        (not-false (unfolded s) (or_left a b h), or_right a b h)

    -- so through a step to a child
    unchanged_child : {u : Tree} → Child Γ e (λ x y. changed Γ p x ≡ false → y ≡ x) s u
        → not (unfolded s) || changed Γ p (next Γ e s) ≡ false → u ≡ s
    unchanged_child c h = let a = still h in cc (c.same (c.rel (cc c.old)), wide_open 0 s a.0)

  -- where the flag is false, the tree is as it was
  pub unchanged_same : (p : Place) (s : Tree)
      → Good (λ u. changed Γ p s ≡ false → u ≡ s) (walk Γ done p s)
  unfolding walk changed step
  unchanged_same [] s = good_done (λ h. refl)
  unchanged_same (deref ∷ p) s = good_same (λ u. unchanged_child deref p s) (step_law Γ deref refl (unchanged_same p) s)
  unchanged_same (field i ∷ p) s = good_same (λ u. unchanged_child (field i) p s) (step_law Γ (field i) refl (unchanged_same p) s)
  unchanged_same (downcast v ∷ p) s = good_bind (cast_law Γ v s) (λ n q. good_same
      (λ u c h. let a = still (downcast v) p s h in cc (q.opens, wide_open v s a.0, c (cc q.opens)))
      (unchanged_same p n))
  unchanged_same (index ∷ p) s = good_bind (index_law Γ s) (λ n q. good_done (λ h. q.0))

  -- an open node stays open
  stays_open : (p : Place) (s : Tree) → Good (λ u. unfolded s ≡ true → unfolded u ≡ true) (walk Γ done p s)
  unfolding walk step
  stays_open [] s = good_done (λ h. h)
  stays_open (deref ∷ p) s = good_same (λ u c h. cc c.shape.5) (step_law Γ deref refl (stays_open p) s)
  stays_open (field i ∷ p) s = good_same (λ u c h. cc c.shape.5) (step_law Γ (field i) refl (stays_open p) s)
  stays_open (downcast v ∷ p) s = good_bind (cast_law Γ v s) (λ n q. good_same (λ u c h. c (cc q.shape.2)) (stays_open p n))
  stays_open (index ∷ p) s = good_bind (index_law Γ s) (λ n q. good_done (λ h. cc q.0))

  -- through a step to a child, back
  same_child : (e : Elem) (p : Place) (s : Tree) {u : Tree} → Child Γ e (λ x y. y ≡ x → changed Γ p x ≡ false) s u
      → u ≡ s → not (unfolded s) || changed Γ p (next Γ e s) ≡ false
  same_child e p s c h = cc (c.rel (cc (c.old, c.new)), c.shape.5, c.old)

  -- and the flag is no more than that: a walk that leaves the tree as it was has changed nothing
  pub same_unchanged : (p : Place) (s : Tree) → Good (λ u. u ≡ s → changed Γ p s ≡ false) (walk Γ done p s)
  unfolding walk changed step
  same_unchanged [] s = good_done (λ h. refl)
  same_unchanged (deref ∷ p) s = good_same (λ u. same_child deref p s) (step_law Γ deref refl (same_unchanged p) s)
  same_unchanged (field i ∷ p) s = good_same (λ u. same_child (field i) p s) (step_law Γ (field i) refl (same_unchanged p) s)
  same_unchanged (downcast v ∷ p) s = good_bind (cast_law Γ v s) (λ n q. good_same
      (λ u c h.
      let a : unfolded s ≡ true = cc (c.1 (cc q.shape.2)) in
      cc (c.0 (cc (q.opens, wide_open v s a)), q.opens))
      (good_and (same_unchanged p n) (stays_open p n)))
  same_unchanged (index ∷ p) s = good_bind (index_law Γ s) (λ n q. good_done (λ h. refl))

  -- on one tree of a state
  pub unchanged_state : (i : ℕ) (p : Place) (E : Forest) → changed Γ p (pick i E) ≡ false → Good (λ D. D ≡ E) (nth i (walk Γ done p) E)
  unchanged_state i p E h = good_same (λ D k. swap_same k.3 (k.2 (cc (swap_old k.3)))) (nth_law (unchanged_same p) i E)
