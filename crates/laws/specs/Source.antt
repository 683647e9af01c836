-- The source's join by its own recursion (model's Source), for trees of one type: what it leaves in the first tree and in the second
-- (`first`, `second`) is `join`, and its two flags (`modified`) are `flags`.
use Rattle.std.specs.Prelude.{◌≡◌, refl, Bool, List, ℕ, eqb}
use Rattle.std.proofs.Common.{eqb-true}
use Rattle.model.specs.Types.{below, kind, sticky}
use Rattle.model.specs.Tree.{settles, settle, leaves, Forest, joins, join, Tree, meet, meets, flags, flagss}
use Rattle.model.specs.Typing.{Fits, fit_none, Fit, fit_more, fit_node, fit_leaf}
use Rattle.model.specs.Source.{first, firsts, second, seconds, filled, filleds, stayed, stayeds, met, mets, modified, modifieds}
use Rattle.base.specs.Tests.{split}
use Rattle.base.specs.Kinds.{sticky_not_enum}
use Rattle.laws.specs.Typing.{recast}

module _ {Γ : List ℕ} where
  -- a folded tree becomes what it meets, settled
  mutual
    unfolding filled settle leaves

    pub filled_settle : (m : Bool) {t : ℕ} {s : Tree} → Fit Γ t s → filled Γ m s t ≡ settle Γ m s
    filled_settle m fit_leaf = refl
    filled_settle m (fit_node {t} o fs) = split (sticky m (kind Γ t))
        (λ e. cc (filleds_settles (below m (kind Γ t)) fs, o.plain (sticky_not_enum m (kind Γ t) e)))
        (λ e. cc)

    pub filleds_settles : (m : Bool) {ts : List ℕ} {ss : Forest} → Fits Γ ts ss
        → filleds Γ m ss ts ≡ settles Γ m ss
    filleds_settles m fit_none = refl
    filleds_settles m (fit_more f fs) = cc (filled_settle m f, filleds_settles m fs)

  -- an open tree that meets a folded one is settled
  mutual
    unfolding stayed settle

    pub stayed_settle : (m : Bool) {t : ℕ} {s : Tree} → Fit Γ t s → stayed Γ m s t ≡ settle Γ m s
    stayed_settle m fit_leaf = refl
    stayed_settle m (fit_node {t} o fs) = split (sticky m (kind Γ t))
        (λ e. cc (stayeds_settles (below m (kind Γ t)) fs, o.plain (sticky_not_enum m (kind Γ t) e)))
        (λ e. cc)

    pub stayeds_settles : (m : Bool) {ts : List ℕ} {ss : Forest} → Fits Γ ts ss
        → stayeds Γ m ss ts ≡ settles Γ m ss
    stayeds_settles m fit_none = refl
    stayeds_settles m (fit_more f fs) = cc (stayed_settle m f, stayeds_settles m fs)

  -- with the flags of that meeting
  mutual
    unfolding met meet

    pub met_meet : (m : Bool) {t : ℕ} {s : Tree} → Fit Γ t s → met Γ m s t ≡ meet Γ m s
    met_meet m fit_leaf = refl
    met_meet m (fit_node {t} o fs) = split (sticky m (kind Γ t))
        (λ e. cc (mets_meets (below m (kind Γ t)) fs, o.plain (sticky_not_enum m (kind Γ t) e)))
        (λ e. cc)

    pub mets_meets : (m : Bool) {ts : List ℕ} {ss : Forest} → Fits Γ ts ss
        → mets Γ m ss ts ≡ meets Γ m ss
    mets_meets m fit_none = refl
    mets_meets m (fit_more f fs) = cc (met_meet m f, mets_meets m fs)

  -- the first tree becomes the join
  mutual
    unfolding first join

    pub first_join : (m : Bool) {t : ℕ} {s e : Tree} → Fit Γ t s → Fit Γ t e
        → first Γ m s e ≡ join Γ m s e
    first_join m fit_leaf g = filled_settle m g
    first_join m (fit_node o fs) fit_leaf = stayed_settle m (fit_node o fs)
    first_join m (fit_node {t} {v} o fs) (fit_node {v = w} o' gs) = split (eqb v w)
        (λ e. cc (firsts_joins (below m (kind Γ t)) fs (recast t v w e gs)))
        (λ e. cc)

    pub firsts_joins : (m : Bool) {ts : List ℕ} {ss es : Forest} → Fits Γ ts ss → Fits Γ ts es
        → firsts Γ m ss es ≡ joins Γ m ss es
    firsts_joins m fit_none gs = refl
    firsts_joins m (fit_more f fs) (fit_more g gs) = cc (first_join m f g, firsts_joins m fs gs)

  -- and so does the second
  mutual
    unfolding second join

    pub second_join : (m : Bool) {t : ℕ} {s e : Tree} → Fit Γ t s → Fit Γ t e
        → second Γ m s e ≡ join Γ m s e
    second_join m fit_leaf g = stayed_settle m g
    second_join m (fit_node o fs) fit_leaf = filled_settle m (fit_node o fs)
    second_join m (fit_node {t} {v} o fs) (fit_node {v = w} o' gs) = split (eqb v w)
        (λ e. cc (seconds_joins (below m (kind Γ t)) fs (recast t v w e gs), eqb-true v w e))
        (λ e. cc)

    pub seconds_joins : (m : Bool) {ts : List ℕ} {ss es : Forest} → Fits Γ ts ss → Fits Γ ts es
        → seconds Γ m ss es ≡ joins Γ m ss es
    seconds_joins m fit_none fit_none = refl
    seconds_joins m (fit_more f fs) (fit_more g gs) = cc (second_join m f g, seconds_joins m fs gs)

  -- the two flags
  mutual
    unfolding modified flags

    pub modified_flags : (m : Bool) {t : ℕ} {s e : Tree} → Fit Γ t s → Fit Γ t e
        → modified Γ m s e ≡ flags Γ m s e
    modified_flags m fit_leaf g = cc (met_meet m g)
    modified_flags m (fit_node o fs) fit_leaf = met_meet m (fit_node o fs)
    modified_flags m (fit_node {t} {v} o fs) (fit_node {v = w} o' gs) = split (eqb v w)
        (λ e. cc (modifieds_flagss (below m (kind Γ t)) fs (recast t v w e gs)))
        (λ e. cc)

    pub modifieds_flagss : (m : Bool) {ts : List ℕ} {ss es : Forest} → Fits Γ ts ss → Fits Γ ts es
        → modifieds Γ m ss es ≡ flagss Γ m ss es
    modifieds_flagss m fit_none gs = refl
    modifieds_flagss m (fit_more f fs) (fit_more g gs) = cc (modified_flags m f g, modifieds_flagss m fs gs)
