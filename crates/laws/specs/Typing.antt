-- Trees of one type: settle and join keep the type; what a typing says of its parts; folded trees of given types.
use Rattle.std.specs.Prelude.{◌≡◌, Bool, true, false, ℕ, eqb}
use Rattle.std.proofs.Math.Path.{refl}
use mathlib.Core.List.{List, [], ◌∷◌}
use Rattle.std.proofs.Common.{eqb-true}
use Rattle.model.specs.Types.{kids, sticky, below, kind}
use Rattle.model.specs.Tree.{settles, node, Tree, join, settle, Forest, joins, leaves, more, type}
use Rattle.model.specs.Typing.{fit_none, fit_leaf, Openable, Fits, fit_more, fit_node, Fit}
use Rattle.model.specs.Collect.{folded}
use Rattle.base.specs.Tests.{eqb_same, split, cond_split}
use Rattle.base.specs.Kinds.{sticky_not_enum}

module _ {Γ : List ℕ} where
  -- two nodes of one type: where their variants differ they are not sticky
  pub apart : {t v w : ℕ} (m : Bool) → Openable Γ t v → Openable Γ t w → eqb v w ≡ false → sticky m (kind Γ t) ≡ false
  apart {t} {v} {w} m p q e = split (sticky m (kind Γ t))
      (λ h. let n = sticky_not_enum m (kind Γ t) h in cc (p.plain n, q.plain n, eqb_same v))
      (λ h. h)

  -- where the variants are equal, the children are of one list of types
  pub recast : (t v w : ℕ) {ms : Forest} → eqb v w ≡ true → Fits Γ (kids Γ t w) ms → Fits Γ (kids Γ t v) ms
  recast t v w e gs = rw (eqb-true v w e) gs

  -- WHAT KEEPS THE TYPE

  -- to settle keeps the type
  mutual
    unfolding settle

    pub fit_settle : (m : Bool) {t : ℕ} {s : Tree} → Fit Γ t s → Fit Γ t (settle Γ m s)
    fit_settle m fit_leaf = fit_leaf
    fit_settle m (fit_node {t} o fs) = cond_split (Fit Γ t) (sticky m (kind Γ t))
        (λ e. fit_node o (fits_settle (below m (kind Γ t)) fs))
        (λ e. fit_leaf)

    pub fits_settle : (m : Bool) {ts : List ℕ} {ss : Forest} → Fits Γ ts ss → Fits Γ ts (settles Γ m ss)
    fits_settle m fit_none = fit_none
    fits_settle m (fit_more f fs) = fit_more (fit_settle m f) (fits_settle m fs)

  -- and so does a join
  mutual
    unfolding join

    pub fit_join : (m : Bool) {t : ℕ} {s e : Tree} → Fit Γ t s → Fit Γ t e → Fit Γ t (join Γ m s e)
    fit_join m fit_leaf g = fit_settle m g
    fit_join m (fit_node o fs) fit_leaf = fit_settle m (fit_node o fs)
    fit_join m (fit_node {t} {v} o fs) (fit_node {v = w} o' gs) = cond_split (Fit Γ t) (eqb v w)
        (λ e. fit_node o (fits_join (below m (kind Γ t)) fs (recast t v w e gs)))
        (λ e. fit_leaf)

    pub fits_join : (m : Bool) {ts : List ℕ} {ss es : Forest} → Fits Γ ts ss → Fits Γ ts es → Fits Γ ts (joins Γ m ss es)
    fits_join m fit_none gs = fit_none
    fits_join m (fit_more f fs) (fit_more g gs) = fit_more (fit_join m f g) (fits_join m fs gs)

  -- THE PARTS OF A TYPING

  -- the type of a tree is that of its root
  pub fit_root : {t : ℕ} {s : Tree} → Fit Γ t s → type s ≡ t
  fit_root fit_leaf = refl
  fit_root (fit_node o fs) = refl

  -- an open node may be open
  pub fit_openable : {t u v : ℕ} {ns : Forest} → Fit Γ t (node u v ns) → Openable Γ u v
  fit_openable (fit_node o fs) = o

  -- and its children are of its fields' types
  pub fit_kids : {t u v : ℕ} {ns : Forest} → Fit Γ t (node u v ns) → Fits Γ (kids Γ u v) ns
  fit_kids (fit_node o fs) = fs

  -- the first of several trees
  pub fits_head : {t : ℕ} {ts : List ℕ} {s : Tree} {ss : Forest} → Fits Γ (t ∷ ts) (more s ss) → Fit Γ t s
  fits_head (fit_more f fs) = f

  -- and the others
  pub fits_tail : {t : ℕ} {ts : List ℕ} {s : Tree} {ss : Forest} → Fits Γ (t ∷ ts) (more s ss) → Fits Γ ts ss
  fits_tail (fit_more f fs) = fs

  -- FOLDED TREES

  -- folded trees have their types
  pub fits_leaves : (ts : List ℕ) → Fits Γ ts (leaves ts)
  unfolding leaves
  fits_leaves [] = fit_none
  fits_leaves (t ∷ ts) = fit_more fit_leaf (fits_leaves ts)

  -- `leaves` is the only forest of folded trees
  pub leaves_folded : {ts : List ℕ} {ns : Forest} → Fits Γ ts ns → folded ns ≡ true → ns ≡ leaves ts
  unfolding leaves
  leaves_folded fit_none e = refl
  leaves_folded (fit_more fit_leaf fs) e = cc (leaves_folded fs e)
  leaves_folded (fit_more (fit_node o gs) fs) e = cc

-- they are folded
pub folded_leaves : (ts : List ℕ) → folded (leaves ts) ≡ true
unfolding leaves
folded_leaves [] = refl
folded_leaves (t ∷ ts) = folded_leaves ts
