-- The number that falls with every join that changes a stored state. A node is loose if a join with a folded node folds it where
-- it stands, else stuck.
use Rattle.std.specs.Prelude.{Bool, false, cond, List, ℕ, ◌+◌, ◌*◌, ◌-◌}
use Rattle.model.specs.Types.{kind, sticky, below}
use Rattle.model.specs.Tree.{Tree, leaf, node, Forest, nil, more}
use Rattle.model.specs.State.{most}

module _ (Γ : List ℕ) where
  unfoldable mutual
    pub loose : Bool → Tree → ℕ
    loose m (leaf t) = 0
    loose m (node t v ns) = cond (sticky m (kind Γ t)) 0 1 + looses (below m (kind Γ t)) ns

    pub looses : Bool → Forest → ℕ
    looses m nil = 0
    looses m (more s ss) = loose m s + looses m ss

  unfoldable mutual
    pub stuck : Bool → Tree → ℕ
    stuck m (leaf t) = 0
    stuck m (node t v ns) = cond (sticky m (kind Γ t)) 1 0 + stucks (below m (kind Γ t)) ns

    pub stucks : Bool → Forest → ℕ
    stucks m nil = 0
    stucks m (more s ss) = stuck m s + stucks m ss

  -- of a state
  unfoldable pub measure : Forest → ℕ
  measure ss = looses false ss * most + (most - stucks false ss)

-- its ceiling
abbrev pub ceiling : ℕ
ceiling = 262656
