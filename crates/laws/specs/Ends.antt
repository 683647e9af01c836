-- Where a walk ends: at a folded node if it has opened one (`fresh_end`); a walk that folds the node reached can be repeated
-- without change, and ends at a folded node again (`folding_again`).
use Rattle.std.specs.Prelude.{◌≡◌, Bool, true, false, not, ◌||◌, ℕ, zero, suc, eqb}
use Rattle.std.proofs.Math.Path.{refl}
use Rattle.std.proofs.Common.{sym, true≢false}
use mathlib.Core.List.{List, [], ◌∷◌}
use Rattle.model.specs.Answer.{done, Answer}
use Rattle.model.specs.Types.{kind, casts, kids}
use Rattle.model.specs.Tree.{more, Tree, leaf, nil, unfolded, type, leaves, node, Forest}
use Rattle.model.specs.Place.{index, Place, deref, Elem, usable, downcast, field}
use Rattle.model.specs.Walk.{enter, step, changed, next, folding, branch, walk, opened, wide, reached, pick}
use Rattle.model.specs.Collect.{folded}
use Rattle.base.specs.Tests.{split}
use Rattle.base.specs.Answer.{good_self, good_same, good_done, good_both, Good, good_none, good_bind, good_and}
use Rattle.laws.specs.Typing.{folded_leaves}
use Rattle.laws.specs.Places.{ended, usable_cast}
use Rattle.laws.specs.Steps.{Child, index_law, cast_again, step_law, cast_law, cast_no_array, moves}
use Rattle.laws.specs.Base.{walk_step, barred}

-- are the children folded?
abbrev pub folded_below : Tree → Bool
folded_below (leaf t) = true
folded_below (node t v ns) = folded ns

-- a folded tree is its type
pub leaf_type : (s : Tree) → unfolded s ≡ false → leaf (type s) ≡ s
leaf_type (leaf t) h = refl
leaf_type (node t v ns) h = absurd (true≢false h)

module _ (Γ : List ℕ) where
  -- a child of a node whose children are folded
  pick_folded : (i : ℕ) (ns : Forest) → folded ns ≡ true → unfolded (pick i ns) ≡ false
  pick_folded i nil h = refl
  pick_folded zero (more (leaf t) ns) h = refl
  pick_folded zero (more (node t v ms) ns) h = sym h
  pick_folded (suc i) (more (leaf t) ns) h = pick_folded i ns h
  pick_folded (suc i) (more (node t v ms) ns) h = absurd (true≢false (sym h))

  -- so of the node opened
  branch_folded : (i : ℕ) (s : Tree) → folded_below s ≡ true → unfolded (branch i (wide Γ 0 s)) ≡ false
  unfolding wide opened
  branch_folded i (leaf t) h = pick_folded i (leaves (kids Γ t 0)) (folded_leaves (kids Γ t 0))
  branch_folded i (node t v ns) h = pick_folded i ns h

  -- a folded node has no open child
  folded_folded : (s : Tree) → unfolded s ≡ false → folded_below s ≡ true
  folded_folded (leaf t) h = refl
  folded_folded (node t v ns) h = absurd (true≢false h)

  -- so the node that an element leads to is folded
  next_folded : (e : Elem) → moves e ≡ true → (s : Tree) → folded_below s ≡ true → unfolded (next Γ e s) ≡ false
  next_folded deref m s h = branch_folded 0 s h
  next_folded (field i) m s h = branch_folded i s h
  next_folded (downcast v) m s h = absurd (true≢false (sym m))
  next_folded index m s h = absurd (true≢false (sym m))

  -- a walk that starts at a folded node, or that has opened one, ends at a folded one
  abbrev Fresh : Place → Tree → Type 0
  Fresh p s = (unfolded s ≡ true → changed Γ p s ≡ true) → unfolded (reached Γ p s) ≡ false

  module _ (e : Elem) (m : moves e ≡ true) (p : Place) (s : Tree) {u : Tree} (c : Child Γ e (λ x y. Fresh p x) s u) where
    -- from a folded node, or where one is opened later
    fresh_child : (unfolded s ≡ true → not (unfolded s) || changed Γ p (next Γ e s) ≡ true)
        → unfolded (reached Γ p (next Γ e s)) ≡ false
    fresh_child h = cc (
      c.old,
      c.rel (λ d. split (unfolded s)
          (λ a. cc (h a, c.old))
          (λ a. cc (next_folded e m s (folded_folded s a), c.old))),
    )

    -- from a node whose children are folded
    fresh_below : folded_below s ≡ true → unfolded (reached Γ p (next Γ e s)) ≡ false
    fresh_below h = cc (c.old, c.rel (λ d. cc (next_folded e m s h, c.old)))

  -- a walk that opens a node, or begins at a folded one, ends at a folded one
  mutual
    unfolding walk step changed reached wide opened

    pub fresh_end : (p : Place) (s : Tree) → usable p ≡ true → Good (λ u. Fresh p s) (walk Γ done p s)
    fresh_end [] s h = good_done (λ d. split (unfolded s) (λ e. cc (d e)) (λ e. e))
    fresh_end (deref ∷ p) s h = good_same (λ u c. fresh_child deref refl p s c) (step_law Γ deref refl (λ x. fresh_end p x h) s)
    fresh_end (field i ∷ p) s h = good_same (λ u c. fresh_child (field i) refl p s c) (step_law Γ (field i) refl (λ x. fresh_end p x h) s)
    fresh_end (downcast v ∷ p) (leaf t) h = good_bind (cast_law Γ v (leaf t)) (λ n q.
        let g = usable_cast v p h in
        rw (← q.opens) (good_same (λ u c d. c) (fresh_node p t v (leaves (kids Γ t v)) g.0 g.1 (folded_leaves (kids Γ t v))
        (cc (cast_no_array Γ q.shape.0 v q.shape.3, q.opens, q.shape.2)))))
    fresh_end (downcast v ∷ p) (node t w ns) h = good_bind (cast_law Γ v (node t w ns)) (λ n q.
        rw (← q.opens) (good_same (λ u c d. c d) (fresh_end p (node t w ns) (usable_cast v p h).0)))
    fresh_end (index ∷ p) s h = good_bind (index_law Γ s) (λ n q. good_done (λ d. split (unfolded s) (λ e. cc (d e)) (λ e. e)))

    -- the same from an open node whose children are folded
    fresh_node : (p : Place) (t v : ℕ) (ns : Forest) → usable p ≡ true → ended p ≡ false → folded ns ≡ true → eqb (kind Γ t) 4 ≡ false
        → Good (λ u. unfolded (reached Γ p (node t v ns)) ≡ false) (walk Γ done p (node t v ns))
    fresh_node [] t v ns h d e k = absurd (true≢false d)
    fresh_node (deref ∷ p) t v ns h d e k = good_same (λ u c. fresh_below deref refl p (node t v ns) c e)
        (step_law Γ deref refl (λ x. fresh_end p x h) (node t v ns))
    fresh_node (field i ∷ p) t v ns h d e k = good_same (λ u c. fresh_below (field i) refl p (node t v ns) c e)
        (step_law Γ (field i) refl (λ x. fresh_end p x h) (node t v ns))
    fresh_node (downcast w ∷ p) t v ns h d e k = good_bind (cast_law Γ w (node t v ns)) (λ n q.
        let g = usable_cast w p h in
        rw (← q.opens) (fresh_node p t v ns g.0 g.1 e k))
    fresh_node (index ∷ p) t v ns h d e k = good_none (barred Γ done (index ∷ p) t v ns refl refl k)

  -- where the walk ends at a folded node, to fold it is nothing
  end_child : (e : Elem) (p : Place) (s : Tree) {u : Tree}
      → Child Γ e (λ x y. unfolded (reached Γ p x) ≡ false → walk Γ folding p x ≡ done y) s u
      → unfolded (reached Γ p (next Γ e s)) ≡ false
      → step Γ e (walk Γ folding p) s ≡ done u
  end_child e p s c h = c.run (walk Γ folding p) (c.rel (cc c.old))

  -- so what folds the node reached leaves what the walk leaves
  pub folded_end : (p : Place) (s : Tree)
      → Good (λ u. unfolded (reached Γ p s) ≡ false → walk Γ folding p s ≡ done u) (walk Γ done p s)
  unfolding walk step reached
  folded_end [] s = good_done {a = s} (λ h. cc (leaf_type s h))
  folded_end (deref ∷ p) s = good_same (λ u c. end_child deref p s c) (step_law Γ deref refl (folded_end p) s)
  folded_end (field i ∷ p) s = good_same (λ u c. end_child (field i) p s c) (step_law Γ (field i) refl (folded_end p) s)
  folded_end (downcast v ∷ p) s = good_bind (good_both (cast_law Γ v s)) (λ n q. good_same
      (λ u c h. cc (q.1, c (cc q.0.opens)))
      (folded_end p n))
  folded_end (index ∷ p) s = good_bind (good_both (index_law Γ s)) (λ n q. good_done (λ h. cc (q.1, q.0.0, leaf_type s h)))

  -- a walk from an open node that goes on leaves it open, at its variant
  kept_child : (e : Elem) (Q : Tree → Tree → Type 0) {t v : ℕ} {ns : Forest} {u : Tree} → Child Γ e Q (node t v ns) u
      → (us : Forest) × (u ≡ node t v us)
  unfolding wide
  kept_child e Q c = (c.shape.3, cc (c.shape.4, c.shape.5))

  -- the same of a whole walk
  kept : (act : Tree → Answer Tree) (p : Place) (t v : ℕ) (ns : Forest) → usable p ≡ true → ended p ≡ false → eqb (kind Γ t) 4 ≡ false
      → Good (λ u. (us : Forest) × (u ≡ node t v us)) (walk Γ act p (node t v ns))
  unfolding walk step wide
  kept act [] t v ns h d k = absurd (true≢false d)
  kept act (deref ∷ p) t v ns h d k = good_same (λ u c. kept_child deref _ c)
      (step_law Γ deref refl (λ x. good_self (walk Γ act p x)) (node t v ns))
  kept act (field i ∷ p) t v ns h d k = good_same (λ u c. kept_child (field i) _ c)
      (step_law Γ (field i) refl (λ x. good_self (walk Γ act p x)) (node t v ns))
  kept act (downcast w ∷ p) t v ns h d k = good_bind (cast_law Γ w (node t v ns)) (λ n q.
      let g = usable_cast w p h in
      rw (← q.opens) (kept act p t v ns g.0 g.1 k))
  kept act (index ∷ p) t v ns h d k = good_none (barred Γ act (index ∷ p) t v ns refl refl k)

  -- a tree that the place walks without change, to a folded node
  pub record Settled (p : Place) (u : Tree) : Type 0 where
    pub walks : walk Γ done p u ≡ done u
    pub same : changed Γ p u ≡ false
    pub ends : unfolded (reached Γ p u) ≡ false

  -- the flag of a walk that begins with a step
  changed_step : (e : Elem) → moves e ≡ true → (p : Place) (s : Tree)
      → changed Γ (e ∷ p) s ≡ not (unfolded s) || changed Γ p (next Γ e s)
  unfolding changed
  changed_step deref m p s = refl
  changed_step (field i) m p s = refl
  changed_step (downcast v) m p s = refl
  changed_step index m p s = absurd (true≢false (sym m))

  -- the node that it reaches
  reached_step : (e : Elem) → moves e ≡ true → (p : Place) (s : Tree)
      → reached Γ (e ∷ p) s ≡ reached Γ p (next Γ e s)
  unfolding reached
  reached_step deref m p s = refl
  reached_step (field i) m p s = refl
  reached_step (downcast v) m p s = refl
  reached_step index m p s = absurd (true≢false (sym m))

  -- through a step to a child
  settled_child : (e : Elem) → moves e ≡ true → (p : Place) (s : Tree) {u : Tree} → Child Γ e (λ x y. Settled p y) s u
      → Settled (e ∷ p) u
  settled_child e m p s {u} c = record {
    walks = cc (walk_step Γ e m done p u, c.again (walk Γ done p) c.rel.walks);
    same = cc (changed_step e m p u, c.shape.5, c.new, c.rel.same);
    ends = cc (reached_step e m p u, c.new, c.rel.ends);
  }

  -- through a downcast
  settled_cast : (v t : ℕ) (p : Place) (us : Forest) → casts Γ t v ≡ true → Settled p (node t v us)
      → Settled (downcast v ∷ p) (node t v us)
  unfolding walk step changed reached wide
  settled_cast v t p us e c = record { walks = cc (cast_again Γ v t us e, c.walks); same = c.same; ends = c.ends }

  -- at an index
  index_again : (t : ℕ) → eqb (kind Γ t) 4 ≡ true → enter Γ index (leaf t) ≡ done (leaf t)
  unfolding enter
  index_again t e = cc

  -- what folds the node reached can be walked again
  pub folding_again : (p : Place) (s : Tree) → usable p ≡ true → Good (Settled p) (walk Γ folding p s)
  unfolding walk step changed reached
  folding_again [] s h = good_done (record { walks = refl; same = refl; ends = refl })
  folding_again (deref ∷ p) s h = good_same (λ u c. settled_child deref refl p s c) (step_law Γ deref refl (λ x. folding_again p x h) s)
  folding_again (field i ∷ p) s h = good_same (λ u c. settled_child (field i) refl p s c) (step_law Γ (field i) refl (λ x. folding_again p x h) s)
  folding_again (downcast v ∷ p) s h = good_bind (cast_law Γ v s) (λ n q.
      let g = usable_cast v p h in
      let t = q.shape.0 in
      let e = q.shape.3 in
      rw q.shape.2 (good_same (λ u c. rw c.1.1 (settled_cast v t p c.1.0 e (rw c.1.1 at c.0)))
      (good_and (folding_again p (node t v q.shape.1) g.0) (kept folding p t v q.shape.1 g.0 g.1 (cast_no_array Γ t v e)))))
  folding_again (index ∷ p) s h = good_bind (index_law Γ s) (λ n q. good_done (record { walks = cc (index_again (type s) q.1, q.0); same = refl; ends = refl }))
