-- The number of nodes of a tree: of folded ones, of a settled one, of a join.
use Rattle.std.specs.Prelude.{◌≡◌, refl, Bool, List, [], ◌∷◌, ℕ, suc, ◌+◌, ◌≤◌, length, eqb}
use native.Mathlib.Omega.{arith}
use Rattle.model.specs.Types.{sticky, below, kind, kids}
use Rattle.model.specs.Tree.{size, sizes, joins, settle, leaves, node, more, nil, settles, join, leaf, Tree, Forest}
use Rattle.model.specs.Typing.{Fits, fit_leaf, fit_node, fit_none, fit_more}
use Rattle.model.specs.Walk.{opened}
use Rattle.base.specs.Tests.{split}

-- a state has a node for each local
pub sizes_leaves : (ts : List ℕ) → sizes (leaves ts) ≡ length ts
unfolding size leaves
sizes_leaves [] = refl
sizes_leaves (t ∷ ts) = omega (arith, sizes_leaves ts)

module _ (Γ : List ℕ) where
  -- and so has each state of their types
  pub sizes_fits : {ts : List ℕ} {ss : Forest} → Fits Γ ts ss → length ts ≤ sizes ss
  unfolding size
  sizes_fits fit_none = omega arith
  sizes_fits (fit_more fit_leaf fs) = omega (arith, sizes_fits fs)
  sizes_fits (fit_more (fit_node o gs) fs) = omega (arith, sizes_fits fs)

  -- a node opened one level
  pub size_opened : (t v : ℕ) → size (opened Γ t v) ≡ suc (length (kids Γ t v))
  unfolding opened size
  size_opened t v = cc (sizes_leaves (kids Γ t v))

  -- to settle opens no node
  mutual
    unfolding settle size

    pub settle_size : (m : Bool) (s : Tree) → size (settle Γ m s) ≤ size s
    settle_size m (leaf t) = omega arith
    settle_size m (node t v ns) = split (sticky m (kind Γ t))
        (λ e. rw e (omega (arith, settles_sizes (below m (kind Γ t)) ns)))
        (λ e. rw e (omega arith))

    pub settles_sizes : (m : Bool) (ss : Forest) → sizes (settles Γ m ss) ≤ sizes ss
    settles_sizes m nil = omega arith
    settles_sizes m (more s ss) = omega (arith, settle_size m s, settles_sizes m ss)

  -- a join has no more nodes than the two trees together; it may have more than either
  mutual
    unfolding join size

    pub join_size : (m : Bool) (s e : Tree) → size (join Γ m s e) ≤ size s + size e
    join_size m (leaf t) e = omega (arith, settle_size m e)
    join_size m (node t v ns) (leaf u) = omega (arith, settle_size m (node t v ns))
    join_size m (node t v ns) (node u w ms) = split (eqb v w)
        (λ e. rw e (omega (arith, joins_sizes (below m (kind Γ t)) ns ms)))
        (λ e. rw e (omega arith))

    pub joins_sizes : (m : Bool) (ss es : Forest) → sizes (joins Γ m ss es) ≤ sizes ss + sizes es
    joins_sizes m nil es = omega arith
    joins_sizes m (more s ss) nil = omega arith
    joins_sizes m (more s ss) (more e es) = omega (arith, join_size m s e, joins_sizes m ss es)
