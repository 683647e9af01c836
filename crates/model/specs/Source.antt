-- The source's join by its own recursion, branch by branch: what it leaves in the two trees, and the two flags that it returns. A folded
-- node that meets a sticky one is opened, as a node of variant 0 over folded fields, and both lists of fields are gone through in pairs, to
-- the end of the shorter (`iter::zip`). `settle`, `join` and `flags` of Tree say the same in fewer cases, without the table of fields. That
-- both trees end as `join` and that the flags are `flags`, for trees of one type, are theorems (laws, Source).
use Rattle.std.specs.Prelude.{List, [], ◌∷◌, Bool, true, false, cond, ℕ, eqb}
use Rattle.model.specs.Types.{kind, kids, sticky, below}
use Rattle.model.specs.Tree.{Tree, leaf, node, Forest, nil, more, leaves, Flags, either, swap}

-- AN OPEN TREE MEETS A FOLDED ONE, of type u (the branches of `Deref`, `Tuple`, `Closure`, `Generator` and `Downcast` with any other)
module _ (Γ : List ℕ) where
  -- what the folded one becomes
  unfoldable mutual
    unfolding leaves

    pub filled : Bool → Tree → ℕ → Tree
    filled m (leaf t) u = leaf u
    filled m (node t v ns) u = cond (sticky m (kind Γ t)) (node u 0 (filleds (below m (kind Γ t)) ns (kids Γ u 0))) (leaf u)

    pub filleds : Bool → Forest → List ℕ → Forest
    filleds m nil us = leaves us
    filleds m (more s ss) [] = nil
    filleds m (more s ss) (u ∷ us) = more (filled m s u) (filleds m ss us)

  -- what the open one becomes
  unfoldable mutual
    pub stayed : Bool → Tree → ℕ → Tree
    stayed m (leaf t) u = leaf t
    stayed m (node t v ns) u = cond (sticky m (kind Γ t)) (node t v (stayeds (below m (kind Γ t)) ns (kids Γ u 0))) (leaf t)

    pub stayeds : Bool → Forest → List ℕ → Forest
    stayeds m nil us = nil
    stayeds m (more s ss) [] = more s ss
    stayeds m (more s ss) (u ∷ us) = more (stayed m s u) (stayeds m ss us)

  -- the flags: of the open one, of the folded one
  unfoldable mutual
    pub met : Bool → Tree → ℕ → Flags
    met m (leaf t) u = (false, false)
    met m (node t v ns) u = cond (sticky m (kind Γ t)) (either (false, true) (mets (below m (kind Γ t)) ns (kids Γ u 0))) (true, false)

    pub mets : Bool → Forest → List ℕ → Flags
    mets m nil us = (false, false)
    mets m (more s ss) [] = (false, false)
    mets m (more s ss) (u ∷ us) = either (met m s u) (mets m ss us)

-- ANY TWO. A folded tree that meets an open one is joined the other way round, and the flags are swapped (`other.join(genv, self, ..)`)
module _ (Γ : List ℕ) where
  -- `self` after the join
  unfoldable mutual
    pub first : Bool → Tree → Tree → Tree
    first m (leaf t) e = filled Γ m e t
    first m (node t v ns) (leaf u) = stayed Γ m (node t v ns) u
    first m (node t v ns) (node u w ms) = cond (eqb v w) (node t v (firsts (below m (kind Γ t)) ns ms)) (leaf t)

    pub firsts : Bool → Forest → Forest → Forest
    firsts m nil es = nil
    firsts m (more s ss) nil = more s ss
    firsts m (more s ss) (more e es) = more (first m s e) (firsts m ss es)

  -- `other` after the join
  unfoldable mutual
    pub second : Bool → Tree → Tree → Tree
    second m (leaf t) e = stayed Γ m e t
    second m (node t v ns) (leaf u) = filled Γ m (node t v ns) u
    second m (node t v ns) (node u w ms) = cond (eqb v w) (node u w (seconds (below m (kind Γ t)) ns ms)) (leaf u)

    pub seconds : Bool → Forest → Forest → Forest
    seconds m nil es = es
    seconds m (more s ss) nil = nil
    seconds m (more s ss) (more e es) = more (second m s e) (seconds m ss es)

  -- `modified1` and `modified2`
  unfoldable mutual
    pub modified : Bool → Tree → Tree → Flags
    modified m (leaf t) e = swap (met Γ m e t)
    modified m (node t v ns) (leaf u) = met Γ m (node t v ns) u
    modified m (node t v ns) (node u w ms) = cond (eqb v w) (modifieds (below m (kind Γ t)) ns ms) (true, true)

    pub modifieds : Bool → Forest → Forest → Flags
    modifieds m nil es = (false, false)
    modifieds m (more s ss) nil = (false, false)
    modifieds m (more s ss) (more e es) = either (modified m s e) (modifieds m ss es)
