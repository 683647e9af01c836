-- The two flags that the source's join returns (`flags` of model's Tree): each is true exactly if its tree changed.
use Rattle.std.specs.Prelude.{◌≡◌, refl, ◌↔◌, ◌≢◌, Bool, true, false, List, ℕ, eqb}
use Rattle.std.proofs.Common.{eqb-true}
use Rattle.model.specs.Types.{sticky, below, kind}
use Rattle.model.specs.Tree.{swap, Tree, leaf, node, Forest, nil, more, settle, settles, join, joins, flags, flagss, meets, meet}
use Rattle.model.specs.Typing.{Fit, Fits, fit_leaf, fit_node, fit_none, fit_more}
use Rattle.base.specs.Tests.{split, eqb_sym, or_left, or_right, passes_exactly}
use Rattle.laws.specs.Typing.{recast, fit_join, fits_join}
use Rattle.laws.specs.Join.{join_self, join_comm, joins_comm, joins_self}
use Rattle.base.specs.Order.{above_second}
use Rattle.laws.specs.Order.{trees, states}

module _ (Γ : List ℕ) where
  -- a tree that meets a folded one: where its flag is false, to settle it is nothing
  mutual
    unfolding meet settle

    meet_settle : (m : Bool) (s : Tree) → (meet Γ m s).0 ≡ false → settle Γ m s ≡ s
    meet_settle m (leaf t) p = refl
    meet_settle m (node t v ns) p = split (sticky m (kind Γ t)) (λ e. cc (meets_settles (below m (kind Γ t)) ns (cc))) (λ e. cc)

    meets_settles : (m : Bool) (ss : Forest) → (meets Γ m ss).0 ≡ false → settles Γ m ss ≡ ss
    meets_settles m nil p = refl
    meets_settles m (more s ss) p =
        cc (meet_settle m s (or_left (meet Γ m s).0 (meets Γ m ss).0 p), meets_settles m ss (or_right (meet Γ m s).0 (meets Γ m ss).0 p))

  -- and back
  mutual
    unfolding meet settle

    settle_meet : (m : Bool) (s : Tree) → settle Γ m s ≡ s → (meet Γ m s).0 ≡ false
    settle_meet m (leaf t) p = refl
    settle_meet m (node t v ns) p = split (sticky m (kind Γ t)) (λ e. cc (settles_meets (below m (kind Γ t)) ns (cc))) (λ e. cc)

    settles_meets : (m : Bool) (ss : Forest) → settles Γ m ss ≡ ss → (meets Γ m ss).0 ≡ false
    settles_meets m nil p = refl
    settles_meets m (more s ss) p = cc (settle_meet m s (cc), settles_meets m ss (cc))

module _ {Γ : List ℕ} where
  -- where the first flag is false the join is the first tree
  mutual
    unfolding flags meet join settle

    pub flag1_join : (m : Bool) {t : ℕ} {s e : Tree} → Fit Γ t s → Fit Γ t e
        → (flags Γ m s e).0 ≡ false → join Γ m s e ≡ s
    flag1_join m fit_leaf fit_leaf p = refl
    flag1_join m fit_leaf (fit_node {t} o gs) p = split (sticky m (kind Γ t)) (λ e. cc) (λ e. cc)
    flag1_join m (fit_node {t} {v} {ns} o fs) fit_leaf p = meet_settle Γ m (node t v ns) p
    flag1_join m (fit_node {t} {v} o fs) (fit_node {v = w} o' gs) p = split (eqb v w)
        (λ e. cc (flags1_joins (below m (kind Γ t)) fs (recast t v w e gs) (cc)))
        (λ e. cc)

    pub flags1_joins : (m : Bool) {ts : List ℕ} {ss es : Forest} → Fits Γ ts ss → Fits Γ ts es
        → (flagss Γ m ss es).0 ≡ false → joins Γ m ss es ≡ ss
    flags1_joins m fit_none fit_none p = refl
    flags1_joins m (fit_more {s} {ss} f fs) (fit_more {s = e} {ss = es} g gs) p =
        let a = (flags Γ m s e).0 in
        let b = (flagss Γ m ss es).0 in
        cc (flag1_join m f g (or_left a b p), flags1_joins m fs gs (or_right a b p))

  -- and back
  mutual
    unfolding flags meet join settle

    pub join_flag1 : (m : Bool) {t : ℕ} {s e : Tree} → Fit Γ t s → Fit Γ t e
        → join Γ m s e ≡ s → (flags Γ m s e).0 ≡ false
    join_flag1 m fit_leaf fit_leaf p = refl
    join_flag1 m fit_leaf (fit_node {t} o gs) p = split (sticky m (kind Γ t)) (λ e. cc) (λ e. cc)
    join_flag1 m (fit_node {t} {v} {ns} o fs) fit_leaf p = settle_meet Γ m (node t v ns) p
    join_flag1 m (fit_node {t} {v} o fs) (fit_node {v = w} o' gs) p = split (eqb v w)
        (λ e. cc (joins_flags1 (below m (kind Γ t)) fs (recast t v w e gs) (cc)))
        (λ e. cc)

    pub joins_flags1 : (m : Bool) {ts : List ℕ} {ss es : Forest} → Fits Γ ts ss → Fits Γ ts es
        → joins Γ m ss es ≡ ss → (flagss Γ m ss es).0 ≡ false
    joins_flags1 m fit_none fit_none p = refl
    joins_flags1 m (fit_more f fs) (fit_more g gs) p = cc (join_flag1 m f g (cc), joins_flags1 m fs gs (cc))

  -- the second flag is the first of the join the other way round
  mutual
    unfolding flags meet

    pub flags_swap : (m : Bool) {t : ℕ} {s e : Tree} → Fit Γ t s → Fit Γ t e
        → flags Γ m s e ≡ swap (flags Γ m e s)
    flags_swap m fit_leaf fit_leaf = refl
    flags_swap m fit_leaf (fit_node o gs) = refl
    flags_swap m (fit_node o fs) fit_leaf = refl
    flags_swap m (fit_node {t} {v} o fs) (fit_node {v = w} o' gs) = split (eqb v w)
        (λ e. cc (flagss_swap (below m (kind Γ t)) fs (recast t v w e gs), eqb-true v w e))
        (λ e. cc (eqb_sym v w))

    pub flagss_swap : (m : Bool) {ts : List ℕ} {ss es : Forest} → Fits Γ ts ss → Fits Γ ts es
        → flagss Γ m ss es ≡ swap (flagss Γ m es ss)
    flagss_swap m fit_none fit_none = refl
    flagss_swap m (fit_more f fs) (fit_more g gs) = cc (flags_swap m f g, flagss_swap m fs gs)

  -- THE LAWS

  -- of two trees of one type
  module _ (m : Bool) {t : ℕ} {s e : Tree} (f : Fit Γ t s) (g : Fit Γ t e) where
    -- the first flag is false exactly if the join is the first tree
    pub flag1_law : ((flags Γ m s e).0 ≡ false) ↔ (join Γ m s e ≡ s)
    flag1_law = (flag1_join m f g, join_flag1 m f g)

    -- the second flag is false exactly if the join is the second tree
    pub flag2_law : ((flags Γ m s e).1 ≡ false) ↔ (join Γ m s e ≡ e)
    flag2_law = (
      λ p. cc (join_comm m f g, flag1_join m g f (cc (flags_swap m f g))),
      λ p. cc (flags_swap m f g, join_flag1 m g f (cc (join_comm m f g))),
    )

    -- each flag is true exactly if its tree has changed
    pub flag1_changed : ((flags Γ m s e).0 ≡ true) ↔ (join Γ m s e ≢ s)
    flag1_changed = passes_exactly (flags Γ m s e).0 flag1_law

    -- and the second
    pub flag2_changed : ((flags Γ m s e).1 ≡ true) ↔ (join Γ m s e ≢ e)
    flag2_changed = passes_exactly (flags Γ m s e).1 flag2_law

    -- the same e once more changes nothing, and no more does a join of the two trees that a join leaves (both are the join: Source)
    pub flag1_again : (flags Γ m (join Γ m s e) e).0 ≡ false
    flag1_again = join_flag1 m (fit_join m f g) g (above_second (trees Γ m t) f g)

    -- both flags are false then
    pub flags_still : flags Γ m (join Γ m s e) (join Γ m s e) ≡ (false, false)
    flags_still =
        let h = fit_join m f g in
        cc (join_flag1 m h h (join_self Γ m (join Γ m s e)), flags_swap m h h)

  -- and of two states: the source's `Env::join` gives the first flag alone
  module _ (m : Bool) {ts : List ℕ} {ss es : Forest} (f : Fits Γ ts ss) (g : Fits Γ ts es) where
    -- the first flag is false exactly if the join is the first state
    pub flags1_law : ((flagss Γ m ss es).0 ≡ false) ↔ (joins Γ m ss es ≡ ss)
    flags1_law = (flags1_joins m f g, joins_flags1 m f g)

    -- the second exactly if it is the second
    pub flags2_law : ((flagss Γ m ss es).1 ≡ false) ↔ (joins Γ m ss es ≡ es)
    flags2_law = (
      λ p. cc (joins_comm m f g, flags1_joins m g f (cc (flagss_swap m f g))),
      λ p. cc (flagss_swap m f g, joins_flags1 m g f (cc (joins_comm m f g))),
    )

    -- each is true exactly if its state has changed
    pub flags1_changed : ((flagss Γ m ss es).0 ≡ true) ↔ (joins Γ m ss es ≢ ss)
    flags1_changed = passes_exactly (flagss Γ m ss es).0 flags1_law

    -- and the second
    pub flags2_changed : ((flagss Γ m ss es).1 ≡ true) ↔ (joins Γ m ss es ≢ es)
    flags2_changed = passes_exactly (flagss Γ m ss es).1 flags2_law

    -- the same state once more changes nothing
    pub flags1_again : (flagss Γ m (joins Γ m ss es) es).0 ≡ false
    flags1_again = joins_flags1 m (fits_join m f g) g (above_second (states Γ m ts) f g)

    -- and a join with itself changes neither
    pub flagss_still : flagss Γ m (joins Γ m ss es) (joins Γ m ss es) ≡ (false, false)
    flagss_still =
        let h = fits_join m f g in
        cc (joins_flags1 m h h (joins_self Γ m (joins Γ m ss es)), flagss_swap m h h)
