-- The join of trees of one type is idempotent, commutative and associative.
-- Each law is a pair of mutual functions, over Tree and Forest, or over Fit and Fits. `cc` does the equations: its list
-- holds the induction hypotheses, and the case's equation (e, d) it finds in reach, so that each `cond` computes.
use Rattle.std.specs.Prelude.{◌≡◌, Bool, List, ℕ, eqb}
use Rattle.std.proofs.Math.Path.{refl}
use Rattle.std.proofs.Common.{sym, ◌∙◌, eqb-true}
use Rattle.model.specs.Types.{sticky, below, kind}
use Rattle.model.specs.Tree.{Tree, leaf, node, Forest, nil, more, settle, settles, join, joins}
use Rattle.model.specs.Typing.{Fit, Fits, fit_leaf, fit_node, fit_none, fit_more}
use Rattle.base.specs.Tests.{split, eqb_same, eqb_sym}
use Rattle.laws.specs.Typing.{apart, recast, fit_settle, fit_join}

module _ (Γ : List ℕ) where
  -- to settle twice is to settle once
  mutual
    unfolding settle

    pub settle_settle : (m : Bool) (s : Tree) → settle Γ m (settle Γ m s) ≡ settle Γ m s
    settle_settle m (leaf t) = refl
    settle_settle m (node t v ns) = split (sticky m (kind Γ t)) (λ e. cc (settles_settles (below m (kind Γ t)) ns)) (λ e. cc)

    pub settles_settles : (m : Bool) (ss : Forest) → settles Γ m (settles Γ m ss) ≡ settles Γ m ss
    settles_settles m nil = refl
    settles_settles m (more s ss) = cc (settle_settle m s, settles_settles m ss)

  -- idempotent
  mutual
    unfolding join settle

    pub join_self : (m : Bool) (s : Tree) → join Γ m s s ≡ s
    join_self m (leaf t) = refl
    join_self m (node t v ns) = cc (eqb_same v, joins_self (below m (kind Γ t)) ns)

    pub joins_self : (m : Bool) (ss : Forest) → joins Γ m ss ss ≡ ss
    joins_self m nil = refl
    joins_self m (more s ss) = cc (join_self m s, joins_self m ss)

module _ {Γ : List ℕ} where
  -- commutative
  mutual
    unfolding join settle

    pub join_comm : (m : Bool) {t : ℕ} {s e : Tree} → Fit Γ t s → Fit Γ t e → join Γ m s e ≡ join Γ m e s
    join_comm m fit_leaf fit_leaf = refl
    join_comm m fit_leaf (fit_node o gs) = refl
    join_comm m (fit_node o fs) fit_leaf = refl
    join_comm m (fit_node {t} {v} o fs) (fit_node {v = w} o' gs) = split (eqb v w)
        (λ e. cc (joins_comm (below m (kind Γ t)) fs (recast t v w e gs), eqb-true v w e))
        (λ e. cc (eqb_sym v w))

    pub joins_comm : (m : Bool) {ts : List ℕ} {ss es : Forest} → Fits Γ ts ss → Fits Γ ts es
        → joins Γ m ss es ≡ joins Γ m es ss
    joins_comm m fit_none fit_none = refl
    joins_comm m (fit_more f fs) (fit_more g gs) = cc (join_comm m f g, joins_comm m fs gs)

  -- a join with a folded tree settles
  join_leaf : (m : Bool) {t : ℕ} {s : Tree} → Fit Γ t s → join Γ m s (leaf t) ≡ settle Γ m s
  unfolding join settle
  join_leaf m fit_leaf = refl
  join_leaf m (fit_node o fs) = refl

  -- to settle one side is to settle the join
  mutual
    unfolding join settle

    pub settle_join : (m : Bool) {t : ℕ} {s e : Tree} → Fit Γ t s → Fit Γ t e
        → join Γ m (settle Γ m s) e ≡ settle Γ m (join Γ m s e)
    settle_join m {e} fit_leaf g = cc (settle_settle Γ m e)
    settle_join m (fit_node {t} o fs) fit_leaf = split (sticky m (kind Γ t)) (λ e. cc) (λ e. cc)
    settle_join m (fit_node {t} {v} o fs) (fit_node {v = w} o' gs) = split (eqb v w)
        (λ e. split (sticky m (kind Γ t)) (λ d. cc (settles_joins (below m (kind Γ t)) fs (recast t v w e gs))) (λ d. cc))
        (λ e. cc (apart m o o' e))

    pub settles_joins : (m : Bool) {ts : List ℕ} {ss es : Forest} → Fits Γ ts ss → Fits Γ ts es
        → joins Γ m (settles Γ m ss) es ≡ settles Γ m (joins Γ m ss es)
    settles_joins m fit_none gs = refl
    settles_joins m (fit_more f fs) (fit_more g gs) = cc (settle_join m f g, settles_joins m fs gs)

  -- to settle the other side likewise
  join_settle : (m : Bool) {t : ℕ} {s e : Tree} → Fit Γ t s → Fit Γ t e
      → join Γ m s (settle Γ m e) ≡ settle Γ m (join Γ m s e)
  join_settle m f g = cc (join_comm m f (fit_settle m g), settle_join m g f, join_comm m f g)

  -- associative
  mutual
    unfolding join settle

    pub join_assoc : (m : Bool) {t : ℕ} {a b c : Tree} → Fit Γ t a → Fit Γ t b → Fit Γ t c
        → join Γ m (join Γ m a b) c ≡ join Γ m a (join Γ m b c)
    join_assoc m fit_leaf g h = settle_join m g h
    join_assoc m (fit_node o fs) fit_leaf h = settle_join m (fit_node o fs) h ∙ sym (join_settle m (fit_node o fs) h)
    join_assoc m (fit_node o fs) (fit_node o' gs) fit_leaf =
        join_leaf m (fit_join m (fit_node o fs) (fit_node o' gs)) ∙ sym (join_settle m (fit_node o fs) (fit_node o' gs))
    join_assoc m (fit_node {t} {v} o fs) (fit_node {v = w} o' gs) (fit_node {v = u} o'' hs) = split (eqb v w)
        (λ e. split (eqb w u)
        (λ d. cc (joins_assoc (below m (kind Γ t)) fs (recast t v w e gs) (recast t v w e (recast t w u d hs)), eqb-true v w e))
        (λ d. cc (eqb-true v w e, apart m o' o'' d)))
        (λ e. split (eqb w u) (λ d. cc (apart m o o' e)) (λ d. cc (apart m o o' e)))

    pub joins_assoc : (m : Bool) {ts : List ℕ} {a b c : Forest} → Fits Γ ts a → Fits Γ ts b
        → Fits Γ ts c → joins Γ m (joins Γ m a b) c ≡ joins Γ m a (joins Γ m b c)
    joins_assoc m fit_none gs hs = refl
    joins_assoc m (fit_more f fs) (fit_more g gs) (fit_more h hs) = cc (join_assoc m f g h, joins_assoc m fs gs hs)
