-- Trees whose types are moved by a map f from one type record's numbers to another's, and that leaves, sizes, joins, flags, the measure and
-- state records go along.
use Rattle.std.specs.Prelude.{◌≡◌, Bool, ℕ, eqb}
use Rattle.std.proofs.Math.Path.{refl}
use Rattle.std.proofs.Math.Bool.{false}
use mathlib.Core.List.{List, [], ◌∷◌, map}
use Rattle.model.specs.Types.{kind, sticky, below}
use Rattle.model.specs.Tree.{Tree, leaf, node, Forest, nil, more, leaves, size, sizes, type, unfolded, settle, settles, join, joins, meet, meets, flags, flagss}
use Rattle.model.specs.State.{codes, codess, encode}
use Rattle.model.specs.Measure.{loose, looses, stuck, stucks, measure}
use Rattle.base.specs.Tests.{split}
use Rattle.moved.specs.Moves.{Moves}

module _ (f : ℕ → ℕ) where
  -- the same tree with its types moved
  unfoldable mutual
    pub retype : Tree → Tree
    retype (leaf t) = leaf (f t)
    retype (node t v ns) = node (f t) v (retypes ns)

    pub retypes : Forest → Forest
    retypes nil = nil
    retypes (more s ss) = more (retype s) (retypes ss)

  -- folded trees are those of the moved types
  pub leaves_moved : (ts : List ℕ) → retypes (leaves ts) ≡ leaves (map f ts)
  unfolding retype leaves
  leaves_moved [] = refl
  leaves_moved (t ∷ ts) = cc (leaves_moved ts)

  -- the type of the place
  pub type_moved : (s : Tree) → type (retype s) ≡ f (type s)
  unfolding retype
  type_moved (leaf t) = refl
  type_moved (node t v ns) = refl

  -- what is open stays open
  pub unfolded_moved : (s : Tree) → unfolded (retype s) ≡ unfolded s
  unfolding retype
  unfolded_moved (leaf t) = refl
  unfolded_moved (node t v ns) = refl

  -- the number of nodes, of a tree and of a state
  mutual
    unfolding retype size

    size_moved : (s : Tree) → size (retype s) ≡ size s
    size_moved (leaf t) = refl
    size_moved (node t v ns) = cc (sizes_moved ns)

    pub sizes_moved : (ss : Forest) → sizes (retypes ss) ≡ sizes ss
    sizes_moved nil = refl
    sizes_moved (more s ss) = cc (size_moved s, sizes_moved ss)

module _ {f : ℕ → ℕ} {Γ Δ : List ℕ} (h : Moves f Γ Δ) where
  -- THE JOIN

  -- the join with a folded place
  mutual
    unfolding retype settle

    settle_moved : (m : Bool) (s : Tree) → settle Δ m (retype f s) ≡ retype f (settle Γ m s)
    settle_moved m (leaf t) = refl
    settle_moved m (node t v ns) = split (sticky m (kind Γ t))
        (λ e. cc (h.kinds t, settles_moved (below m (kind Γ t)) ns))
        (λ e. cc (h.kinds t))

    settles_moved : (m : Bool) (ss : Forest) → settles Δ m (retypes f ss) ≡ retypes f (settles Γ m ss)
    settles_moved m nil = refl
    settles_moved m (more s ss) = cc (settle_moved m s, settles_moved m ss)

  -- of two trees, and of two states
  mutual
    unfolding retype join

    join_moved : (m : Bool) (s e : Tree) → join Δ m (retype f s) (retype f e) ≡ retype f (join Γ m s e)
    join_moved m (leaf t) e = settle_moved m e
    join_moved m (node t v ns) (leaf u) = settle_moved m (node t v ns)
    join_moved m (node t v ns) (node u w ms) = split (eqb v w)
        (λ e. cc (h.kinds t, joins_moved (below m (kind Γ t)) ns ms))
        (λ e. cc)

    pub joins_moved : (m : Bool) (ss es : Forest) → joins Δ m (retypes f ss) (retypes f es) ≡ retypes f (joins Γ m ss es)
    joins_moved m nil es = refl
    joins_moved m (more s ss) nil = refl
    joins_moved m (more s ss) (more e es) = cc (join_moved m s e, joins_moved m ss es)

  -- the flags of a meeting with a folded place
  mutual
    unfolding retype meet

    meet_moved : (m : Bool) (s : Tree) → meet Δ m (retype f s) ≡ meet Γ m s
    meet_moved m (leaf t) = refl
    meet_moved m (node t v ns) = cc (h.kinds t, meets_moved (below m (kind Γ t)) ns)

    meets_moved : (m : Bool) (ss : Forest) → meets Δ m (retypes f ss) ≡ meets Γ m ss
    meets_moved m nil = refl
    meets_moved m (more s ss) = cc (meet_moved m s, meets_moved m ss)

  -- of two trees, and of two states
  mutual
    unfolding retype flags

    flags_moved : (m : Bool) (s e : Tree) → flags Δ m (retype f s) (retype f e) ≡ flags Γ m s e
    flags_moved m (leaf t) e = cc (meet_moved m e)
    flags_moved m (node t v ns) (leaf u) = meet_moved m (node t v ns)
    flags_moved m (node t v ns) (node u w ms) = cc (h.kinds t, flagss_moved (below m (kind Γ t)) ns ms)

    pub flagss_moved : (m : Bool) (ss es : Forest) → flagss Δ m (retypes f ss) (retypes f es) ≡ flagss Γ m ss es
    flagss_moved m nil es = refl
    flagss_moved m (more s ss) nil = refl
    flagss_moved m (more s ss) (more e es) = cc (flags_moved m s e, flagss_moved m ss es)

  -- THE MEASURE

  -- the loose nodes
  mutual
    unfolding retype loose

    loose_moved : (m : Bool) (s : Tree) → loose Δ m (retype f s) ≡ loose Γ m s
    loose_moved m (leaf t) = refl
    loose_moved m (node t v ns) = cc (h.kinds t, looses_moved (below m (kind Γ t)) ns)

    looses_moved : (m : Bool) (ss : Forest) → looses Δ m (retypes f ss) ≡ looses Γ m ss
    looses_moved m nil = refl
    looses_moved m (more s ss) = cc (loose_moved m s, looses_moved m ss)

  -- the stuck ones
  mutual
    unfolding retype stuck

    stuck_moved : (m : Bool) (s : Tree) → stuck Δ m (retype f s) ≡ stuck Γ m s
    stuck_moved m (leaf t) = refl
    stuck_moved m (node t v ns) = cc (h.kinds t, stucks_moved (below m (kind Γ t)) ns)

    stucks_moved : (m : Bool) (ss : Forest) → stucks Δ m (retypes f ss) ≡ stucks Γ m ss
    stucks_moved m nil = refl
    stucks_moved m (more s ss) = cc (stuck_moved m s, stucks_moved m ss)

  -- of a state
  pub measure_moved : (ss : Forest) → measure Δ (retypes f ss) ≡ measure Γ ss
  unfolding measure
  measure_moved ss = cc (looses_moved false ss, stucks_moved false ss)

  -- STATE RECORDS

  -- form and what of the nodes
  mutual
    unfolding retype codes

    codes_moved : (s : Tree) → codes Δ (retype f s) ≡ codes Γ s
    codes_moved (leaf t) = refl
    codes_moved (node t v ns) = cc (h.kinds t, codess_moved ns)

    codess_moved : (ss : Forest) → codess Δ (retypes f ss) ≡ codess Γ ss
    codess_moved nil = refl
    codess_moved (more s ss) = cc (codes_moved s, codess_moved ss)

  -- the record of a state
  pub encode_moved : (E : Forest) → encode Δ (retypes f E) ≡ encode Γ E
  unfolding encode
  encode_moved E = rw (codess_moved E, sizes_moved f E)
