-- How deep trees are open: folded ones not at all, a join no deeper than the deeper of two, and a walk opens no node deeper than
-- its place leads. So walks, projections, downcasts and statements within refusal 4's limits keep `depths E ≤ levels`.
use Rattle.std.specs.Prelude.{◌≡◌, Bool, true, false, ℕ, zero, suc, ◌≤◌, max, ◌+◌, eqb}
use Rattle.std.proofs.Math.Path.{refl}
use Rattle.std.proofs.Common.{sym, true≢false, arith}
use mathlib.Core.List.{List, [], ◌∷◌}
use Rattle.model.specs.Answer.{Answer}
use Rattle.model.specs.Types.{below, pointer, kind, sticky, casts, kids, fielded}
use Rattle.model.specs.Tree.{join, settle, leaves, node, Tree, leaf, settles, nil, joins, more, Forest}
use Rattle.model.specs.Typing.{depth, depths}
use Rattle.model.specs.Place.{steps, downcast, Elem, field, deref, index, Place, usable}
use Rattle.model.specs.Walk.{enter, nth, opened, child, wide, walk, step}
use Rattle.base.specs.Tests.{split}
use Rattle.base.specs.Answer.{good_refused, good_bind, good_cond, good_done, Good, good_same, good_none, good_and, good_self}
use Rattle.laws.specs.Places.{ended, usable_cast}
use Rattle.laws.specs.Steps.{cast_law, index_law, cast_no_array, moves}
use Rattle.laws.specs.Base.{barred}

-- folded trees are open at no level
pub depths_leaves : (ts : List ℕ) → depths (leaves ts) ≡ 0
unfolding depth leaves
depths_leaves [] = refl
depths_leaves (t ∷ ts) = omega (arith, depths_leaves ts)

-- THE JOIN

module _ (Γ : List ℕ) where
  -- to settle opens nothing
  mutual
    unfolding settle depth

    pub settle_depth : (m : Bool) (s : Tree) → depth (settle Γ m s) ≤ depth s
    settle_depth m (leaf t) = omega arith
    settle_depth m (node t v ns) = split (sticky m (kind Γ t))
        (λ e. rw e (omega (arith, settles_depths (below m (kind Γ t)) ns)))
        (λ e. rw e (omega arith))

    pub settles_depths : (m : Bool) (ss : Forest) → depths (settles Γ m ss) ≤ depths ss
    settles_depths m nil = omega arith
    settles_depths m (more s ss) = omega (arith, settle_depth m s, settles_depths m ss)

  -- a join is no deeper than the deeper tree
  mutual
    unfolding join depth

    pub join_depth : (m : Bool) (s e : Tree) → depth (join Γ m s e) ≤ max (depth s) (depth e)
    join_depth m (leaf t) e = omega (arith, settle_depth m e)
    join_depth m (node t v ns) (leaf u) = omega (arith, settle_depth m (node t v ns))
    join_depth m (node t v ns) (node u w ms) = split (eqb v w)
        (λ e. rw e (omega (arith, joins_depths (below m (kind Γ t)) ns ms)))
        (λ e. rw e (omega arith))

    pub joins_depths : (m : Bool) (ss es : Forest) → depths (joins Γ m ss es) ≤ max (depths ss) (depths es)
    joins_depths m nil es = omega arith
    joins_depths m (more s ss) nil = omega arith
    joins_depths m (more s ss) (more e es) = omega (arith, join_depth m s e, joins_depths m ss es)

-- THE WALK

-- what opens nodes at n levels at the most
abbrev pub Deep : ℕ → (Tree → Answer Tree) → Type 0
Deep n f = (s : Tree) → Good (λ u. depth u ≤ max (depth s) n) (f s)

-- on one tree of several
pub nth_deep : (n : ℕ) (f : Tree → Answer Tree) → Deep n f → (i : ℕ) (ns : Forest) → Good (λ us. depths us ≤ max (depths ns) n) (nth i f ns)
unfolding depth
nth_deep n f h i nil = good_refused
nth_deep n f h zero (more s ss) = good_bind (h s) (λ u k. good_done (omega arith))
nth_deep n f h (suc i) (more s ss) = good_bind (nth_deep n f h i ss) (λ us k. good_done (omega arith))

-- at a child: a level more
child_deep : (n : ℕ) (f : Tree → Answer Tree) → Deep n f → (i : ℕ) → Deep (suc n) (child i f)
unfolding depth
child_deep n f h i (leaf t) = good_refused
child_deep n f h i (node t v ns) = good_bind (nth_deep n f h i ns) (λ us k. good_done (omega arith))

module _ (Γ : List ℕ) where
  -- a node opened one level
  pub opened_depth : (t v : ℕ) → depth (opened Γ t v) ≡ 1
  unfolding opened depth
  opened_depth t v = cc (depths_leaves (kids Γ t v))

  -- a node opened for an element
  pub enter_deep : (e : Elem) → Deep 1 (enter Γ e)
  unfolding enter
  enter_deep deref (leaf t) = good_cond _ (pointer (kind Γ t)) (λ e. good_done (omega (arith, opened_depth t 0))) (λ e. good_refused)
  enter_deep deref (node t v ns) = good_cond _ (pointer (kind Γ t)) (λ e. good_done (omega arith)) (λ e. good_refused)
  enter_deep (field i) (leaf t) = good_cond _ (fielded (kind Γ t)) (λ e. good_done (omega (arith, opened_depth t 0))) (λ e. good_refused)
  enter_deep (field i) (node t v ns) = good_cond _ (pointer (kind Γ t)) (λ e. good_refused) (λ e. good_done (omega arith))
  enter_deep (downcast v) (leaf t) = good_cond _ (casts Γ t v) (λ e. good_done (omega (arith, opened_depth t v))) (λ e. good_refused)
  enter_deep (downcast v) (node t w ns) = good_cond _ (casts Γ t v)
      (λ e. good_cond _ (eqb v w) (λ d. good_done (omega arith)) (λ d. good_refused))
      (λ e. good_refused)
  enter_deep index (leaf t) = good_cond _ (eqb (kind Γ t) 4) (λ e. good_done (omega arith)) (λ e. good_refused)
  enter_deep index (node t v ns) = good_cond _ (eqb (kind Γ t) 4) (λ e. good_done (omega arith)) (λ e. good_refused)

  -- and so in a step
  step_deep : (e : Elem) → moves e ≡ true → (n : ℕ) (f : Tree → Answer Tree) → Deep n f → Deep (suc n) (step Γ e f)
  unfolding step
  step_deep deref m n f h s = good_bind (enter_deep deref s) (λ x k. good_same (λ u l. omega arith) (child_deep n f h 0 x))
  step_deep (field i) m n f h s = good_bind (enter_deep (field i) s) (λ x k. good_same (λ u l. omega arith) (child_deep n f h i x))
  step_deep (downcast v) m n f h s = absurd (true≢false (sym m))
  step_deep index m n f h s = absurd (true≢false (sym m))

  -- a place that goes on from an open node, and is walked, has a step
  walk_steps : (f : Tree → Answer Tree) (p : Place) (t v : ℕ) (ns : Forest) → usable p ≡ true → ended p ≡ false → eqb (kind Γ t) 4 ≡ false
      → Good (λ u. 1 ≤ steps p) (walk Γ f p (node t v ns))
  unfolding walk step steps wide
  walk_steps f [] t v ns h d k = absurd (true≢false d)
  walk_steps f (deref ∷ p) t v ns h d k = good_same (λ u c. omega arith) (good_self (walk Γ f (deref ∷ p) (node t v ns)))
  walk_steps f (field i ∷ p) t v ns h d k = good_same (λ u c. omega arith) (good_self (walk Γ f (field i ∷ p) (node t v ns)))
  walk_steps f (downcast w ∷ p) t v ns h d k = good_bind (cast_law Γ w (node t v ns)) (λ n q.
      let g = usable_cast w p h in
      rw (← q.opens) (walk_steps f p t v ns g.0 g.1 k))
  walk_steps f (index ∷ p) t v ns h d k = good_none (barred Γ f (index ∷ p) t v ns refl refl k)

  -- n: what is done at the node reached; where the place ends in downcast, that opens a level of its own
  pub walk_deep : (n : ℕ) (f : Tree → Answer Tree) → Deep n f → (p : Place) → (usable p ≡ false → 1 ≤ n) → Deep (steps p + n) (walk Γ f p)
  unfolding walk step steps
  walk_deep n f h [] o s = good_same (λ u k. omega arith) (h s)
  walk_deep n f h (deref ∷ p) o s = good_same (λ u k. omega arith) (step_deep deref refl (steps p + n) (walk Γ f p) (walk_deep n f h p o) s)
  walk_deep n f h (field i ∷ p) o s = good_same (λ u k. omega arith) (step_deep (field i) refl (steps p + n) (walk Γ f p) (walk_deep n f h p o) s)
  walk_deep n f h (downcast v ∷ []) o s = good_bind (enter_deep (downcast v) s) (λ x k. good_same (λ u l. omega (arith, o refl)) (h x))
  walk_deep n f h (downcast v ∷ (e ∷ p)) o s = good_bind (good_and (enter_deep (downcast v) s) (cast_law Γ v s)) (λ x k. split (usable (e ∷ p))
      (λ a.
      let t = k.1.shape.0 in
      let ns = k.1.shape.1 in
      rw k.1.shape.2 (good_same (λ u l. omega (arith, rw k.1.shape.2 at k.0)) (good_and
      (walk_steps f (e ∷ p) t v ns a refl (cast_no_array Γ t v k.1.shape.3))
      (walk_deep n f h (e ∷ p) o (node t v ns)))))
      (λ a. good_same (λ u l. omega (arith, o a)) (walk_deep n f h (e ∷ p) o x)))
  walk_deep n f h (index ∷ p) o s = good_bind (index_law Γ s) (λ x k. rw k.0 (good_same (λ u l. omega arith) (h s)))
