-- The statements collected do what they are for: carried out in order on the first tree, they lead to the second.
use Rattle.std.specs.Prelude.{◌≡◌, refl, ℕ}
use Rattle.std.proofs.Math.Bool.{true, false}
use mathlib.Core.List.{List, [], ◌∷◌, map}
use Rattle.std.proofs.Math.Dec.{eqb}
use borrow.Author.Tests.{eqb-true, eqb-false}
use Rattle.model.specs.Answer.{done}
use Rattle.model.specs.Types.{kind, kids}
use Rattle.model.specs.Tree.{Tree, leaf, node, Forest, leaves}
use Rattle.model.specs.Typing.{Openable, Fit, Fits, fit_leaf, fit_node, fit_none, fit_more}
use Rattle.model.specs.Place.{Fold, Unfold, here, At}
use Rattle.model.specs.Walk.{opened, walk, carry, carries, carries_at}
use Rattle.model.specs.Collect.{lift, folded, unfolds, unfoldss, collect, collects}
use Rattle.base.specs.Answer.{Good, good_refused, good_done, good_bind, good_cond}
use Rattle.base.specs.Kinds.{openable_not_shut}
use Rattle.laws.specs.Typing.{recast, leaves_folded, folded_leaves, fits_leaves}
use Rattle.laws.specs.Sound.{Sound, fits_single}
use Rattle.laws.specs.Steps.{opening_leaf}
use Rattle.laws.specs.Hops.{hop_leaf, lift_run, both_run, fold_here}

module _ (Γ : List ℕ) (y : Sound Γ) where
  -- a node whose fields are all folded, of no enum
  unfold_here : {t v : ℕ} {ns : Forest} → Openable Γ t v → Fits Γ (kids Γ t v) ns → folded ns ≡ true → eqb (kind Γ t) 7 ≡ false
      → carry Γ (here Unfold) (leaf t) ≡ done (node t v ns)
  unfolding carry walk opened
  unfold_here {t} {v} o fs d e =
      let n = eqb-false (kind Γ t) 7 e in
      cc (opening_leaf Γ t (openable_not_shut o) n, o.plain n, leaves_folded fs d)

  -- a node whose fields are not all folded: the first of its statements opens it
  unfold_first : {t v : ℕ} {ns : Forest} → Openable Γ t v → folded ns ≡ false → (a : List At) → carries_at Γ a (leaves (kids Γ t v)) ≡ done ns
      → carries Γ (map (lift true (kind Γ t) v) a) (leaf t) ≡ done (node t v ns)
  unfolding opened
  unfold_first {t} {v} o e [] h = cc (folded_leaves (kids Γ t v))
  unfold_first {t} {v} o e (x ∷ a) h =
      cc (hop_leaf Γ y o x, lift_run Γ true o (x ∷ a) (fits_single y o (fits_leaves (kids Γ t v))) h)

  -- from a folded tree
  mutual
    unfolding unfolds leaves

    pub unfolds_carry : {t : ℕ} {e : Tree} → Fit Γ t e
        → Good (λ a. carries Γ a (leaf t) ≡ done e) (unfolds Γ e)
    unfolds_carry fit_leaf = good_done refl
    unfolds_carry (fit_node {t} {v} {ns} o fs) = good_cond _ (folded ns)
        (λ e. good_cond _ (eqb (kind Γ t) 7) (λ d. good_refused) (λ d. good_done (cc (unfold_here o fs e d))))
        (λ e. good_bind (unfoldss_carry fs) (λ a h. good_done (unfold_first o e a h)))

    pub unfoldss_carry : {ts : List ℕ} {es : Forest} → Fits Γ ts es
        → Good (λ a. carries_at Γ a (leaves ts) ≡ done es) (unfoldss Γ es)
    unfoldss_carry fit_none = good_done refl
    unfoldss_carry (fit_more {t} {ts} f fs) = good_bind (unfolds_carry f) (λ a h.
        good_bind (unfoldss_carry fs) (λ b d. good_done (both_run Γ a b (leaf t) (leaves ts) h d)))

  -- from one tree to another
  mutual
    unfolding collect

    pub collect_carry : {t : ℕ} {s e : Tree} → Fit Γ t s → Fit Γ t e
        → Good (λ a. carries Γ a s ≡ done e) (collect Γ s e)
    collect_carry fit_leaf g = unfolds_carry g
    collect_carry (fit_node {t} {v} {ns} o fs) fit_leaf = good_done {a = here Fold ∷ []} (cc (fold_here Γ (node t v ns)))
    collect_carry (fit_node {t} {v} {ns} o fs) (fit_node {v = w} o' gs) = good_cond _ (eqb v w)
        (λ e. good_bind (collects_carry fs (recast t v w e gs)) (λ a h. good_done
        (cc (eqb-true v w e, lift_run Γ false o a (fits_single y o fs) h))))
        (λ e. good_refused)

    pub collects_carry : {ts : List ℕ} {ss es : Forest} → Fits Γ ts ss → Fits Γ ts es
        → Good (λ a. carries_at Γ a ss ≡ done es) (collects Γ ss es)
    collects_carry fit_none fit_none = good_done refl
    collects_carry (fit_more {s} {ss} f fs) (fit_more g gs) = good_bind (collect_carry f g) (λ a h.
        good_bind (collects_carry fs gs) (λ b d. good_done (both_run Γ a b s ss h d)))
