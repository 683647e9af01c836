-- The statements owed at a return are never refused, and leave `returned` (model's Collect).
use Rattle.std.specs.Prelude.{◌≡◌, true, List, eqb}
use Rattle.std.proofs.Math.Path.{refl}
use Prim.Native.Nat.{ℕ, zero, suc}
use Rattle.model.specs.Answer.{done}
use Rattle.model.specs.Types.{kind}
use Rattle.model.specs.Tree.{Forest, Tree}
use Rattle.model.specs.Typing.{fit_leaf, fit_node, fit_more, fit_none, Fits, Fit}
use Rattle.model.specs.Place.{here, Fold}
use Rattle.model.specs.Walk.{carries, nth, carry, carries_at}
use Rattle.model.specs.Collect.{firsts, folds, foldss, folds_at_ret, fold_first, returned, returneds, returned_firsts, returned_at}
use Rattle.base.specs.Tests.{split}
use Rattle.base.specs.Kinds.{pointer_mut}
use Rattle.laws.specs.Sound.{single, Sound, fits_single, Single}
use Rattle.laws.specs.Hops.{both_run, fold_here, later_run, carry_deref, lift_run}

module _ (Γ : List ℕ) (y : Sound Γ) where
  -- to fold the tree below a pointer
  fold_single : {ns : Forest} → Single ns → nth 0 (carry Γ (here Fold)) ns ≡ done (fold_first ns)
  fold_single (single {s}) = cc (fold_here Γ s)

  -- what is owed, carried out
  mutual
    unfolding folds returned

    pub folds_carry : {t : ℕ} {s : Tree} → Fit Γ t s
        → carries Γ (folds Γ s) s ≡ done (returned Γ s)
    folds_carry fit_leaf = refl
    folds_carry (fit_node {t} {v} {ns} o fs) =
        let one = fits_single y o fs in
        split (eqb (kind Γ t) 1) (λ e. cc) (λ e. split (eqb (kind Γ t) 2)
        (λ d. let p = pointer_mut (kind Γ t) d in cc (carry_deref Γ (here Fold) t v ns p, fold_single (one p)))
        (λ d. cc (lift_run Γ true o (foldss Γ ns) one (foldss_carry fs))))

    pub foldss_carry : {ts : List ℕ} {ss : Forest} → Fits Γ ts ss
        → carries_at Γ (foldss Γ ss) ss ≡ done (returneds Γ ss)
    foldss_carry fit_none = refl
    foldss_carry (fit_more {s} {ss} f fs) =
        both_run Γ (folds Γ s) (foldss Γ ss) s ss (folds_carry f) (foldss_carry fs)

  -- of the first n trees
  firsts_carry : (n : ℕ) {ts : List ℕ} {ss : Forest} → Fits Γ ts ss → carries_at Γ (foldss Γ (firsts n ss)) ss ≡ done (returned_firsts Γ n ss)
  unfolding folds
  firsts_carry zero fs = refl
  firsts_carry (suc n) fit_none = refl
  firsts_carry (suc n) (fit_more {s} {ss} f fs) =
      both_run Γ (folds Γ s) (foldss Γ (firsts n ss)) s ss (folds_carry f) (firsts_carry n fs)

  -- what is owed at a return, carried out on the state that it is collected from
  pub folds_at_ret_carry : (n : ℕ) {ts : List ℕ} {E : Forest} → Fits Γ ts E → carries_at Γ (folds_at_ret Γ n E) E ≡ done (returned_at Γ n E)
  unfolding folds_at_ret
  folds_at_ret_carry n fit_none = refl
  folds_at_ret_carry n (fit_more {s} {ss} f fs) = later_run Γ (foldss Γ (firsts n ss)) s ss (firsts_carry n fs)
