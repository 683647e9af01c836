-- Trees of places (`PlaceNode`), and their join (`PlaceNode::join`).
-- A leaf is a folded place (`Ty`); a node is an unfolded one, with the place below each of its fields. t: the type's
-- number; v: the variant, for an enum (else 0). The source's other five constructors follow from the kind of t.
use Rattle.std.specs.Prelude.{Bool, true, false, cond, ◌||◌, List, [], ◌∷◌, ℕ, suc, ◌+◌, eqb}
use Rattle.model.specs.Types.{kind, sticky, below}

mutual
  pub data Tree : Type 0 where
    leaf : (t : ℕ) → Tree
    node : (t v : ℕ) → Forest → Tree

  -- the children of a node; also a state, the trees of all locals (`Env`)
  pub data Forest : Type 0 where
    nil : Forest
    more : Tree → Forest → Forest

-- the number of nodes
unfoldable mutual
  pub size : Tree → ℕ
  size (leaf t) = 1
  size (node t v ns) = suc (sizes ns)

  pub sizes : Forest → ℕ
  sizes nil = 0
  sizes (more s ss) = size s + sizes ss

-- the type of the place
abbrev pub type : Tree → ℕ
type (leaf t) = t
type (node t v ns) = t

abbrev pub unfolded : Tree → Bool
unfolded (leaf t) = false
unfolded (node t v ns) = true

-- folded trees of these types: a node's children when it is opened, and the state at the entry (`Env::new`)
unfoldable pub leaves : List ℕ → Forest
leaves [] = nil
leaves (t ∷ ts) = more (leaf t) (leaves ts)

-- THE JOIN

module _ (Γ : List ℕ) where
  -- the join with a folded place
  unfoldable mutual
    pub settle : Bool → Tree → Tree
    settle m (leaf t) = leaf t
    settle m (node t v ns) = cond (sticky m (kind Γ t)) (node t v (settles (below m (kind Γ t)) ns)) (leaf t)

    pub settles : Bool → Forest → Forest
    settles m nil = nil
    settles m (more s ss) = more (settle m s) (settles m ss)

  -- m: inside a mutable reference (`in_mut_ref`)
  unfoldable mutual
    pub join : Bool → Tree → Tree → Tree
    join m (leaf t) e = settle m e
    join m (node t v ns) (leaf _) = settle m (node t v ns)
    join m (node t v ns) (node _ w ms) = cond (eqb v w) (node t v (joins (below m (kind Γ t)) ns ms)) (leaf t)

    -- the join of two states is `joins Γ false` (`Env::join`)
    pub joins : Bool → Forest → Forest → Forest
    joins m nil es = nil
    joins m (more s ss) nil = nil
    joins m (more s ss) (more e es) = more (join m s e) (joins m ss es)

-- THE FLAGS: has the join changed the first tree, the second? (By the source's own recursion: Source)

abbrev pub Flags : Type 0
Flags = Bool × Bool

-- modified1 |= m1; modified2 |= m2
abbrev pub either : Flags → Flags → Flags
either a b = (a.0 || b.0, a.1 || b.1)

abbrev pub swap : Flags → Flags
swap a = (a.1, a.0)

module _ (Γ : List ℕ) where
  -- an open tree, the first, meets a folded one, the second, which is opened where the first is sticky
  unfoldable mutual
    pub meet : Bool → Tree → Flags
    meet m (leaf t) = (false, false)
    meet m (node t v ns) = cond (sticky m (kind Γ t)) (either (false, true) (meets (below m (kind Γ t)) ns)) (true, false)

    pub meets : Bool → Forest → Flags
    meets m nil = (false, false)
    meets m (more s ss) = either (meet m s) (meets m ss)

  unfoldable mutual
    pub flags : Bool → Tree → Tree → Flags
    flags m (leaf t) e = swap (meet m e)
    flags m (node t v ns) (leaf _) = meet m (node t v ns)
    flags m (node t v ns) (node _ w ms) = cond (eqb v w) (flagss (below m (kind Γ t)) ns ms) (true, true)

    -- of two states; `Env::join` gives the first alone
    pub flagss : Bool → Forest → Forest → Flags
    flagss m nil es = (false, false)
    flagss m (more s ss) nil = (false, false)
    flagss m (more s ss) (more e es) = either (flags m s e) (flagss m ss es)
