-- What is collected, from one state to another, from all folded and at a return, is the same where the types are moved.
use Rattle.std.specs.Prelude.{◌≡◌, List}
use Rattle.std.proofs.Math.Path.{refl}
use Prim.Native.Nat.{ℕ, zero, suc}
use Rattle.model.specs.Tree.{Tree, leaf, node, Forest, nil, more}
use Rattle.model.specs.Collect.{folded, firsts, unfolds, unfoldss, collect, collects, folds, foldss, folds_at_ret}
use Rattle.moved.specs.Moves.{Moves}
use Rattle.moved.specs.Retyped.{retype, retypes, unfolded_moved}

module _ (f : ℕ → ℕ) where
  -- all trees are folded
  folded_moved : (ss : Forest) → folded (retypes f ss) ≡ folded ss
  unfolding retypes
  folded_moved nil = refl
  folded_moved (more s ss) = cc (unfolded_moved f s, folded_moved ss)

  -- the first n trees
  firsts_moved : (n : ℕ) (ss : Forest) → firsts n (retypes f ss) ≡ retypes f (firsts n ss)
  unfolding retypes
  firsts_moved zero ss = refl
  firsts_moved (suc n) nil = refl
  firsts_moved (suc n) (more s ss) = cc (firsts_moved n ss)

module _ {f : ℕ → ℕ} {Γ Δ : List ℕ} (h : Moves f Γ Δ) where
  -- from all folded
  mutual
    unfolding retype unfolds

    unfolds_moved : (s : Tree) → unfolds Δ (retype f s) ≡ unfolds Γ s
    unfolds_moved (leaf t) = refl
    unfolds_moved (node t v ns) = rw (h.kinds t, folded_moved f ns, unfoldss_moved ns)

    unfoldss_moved : (ss : Forest) → unfoldss Δ (retypes f ss) ≡ unfoldss Γ ss
    unfoldss_moved nil = refl
    unfoldss_moved (more s ss) = rw (unfolds_moved s, unfoldss_moved ss)

  -- from one to another
  mutual
    unfolding retype collect

    collect_moved : (s e : Tree) → collect Δ (retype f s) (retype f e) ≡ collect Γ s e
    collect_moved (leaf t) e = unfolds_moved e
    collect_moved (node t v ns) (leaf u) = refl
    collect_moved (node t v ns) (node u w ms) = rw (h.kinds t, collects_moved ns ms)

    pub collects_moved : (ss es : Forest) → collects Δ (retypes f ss) (retypes f es) ≡ collects Γ ss es
    collects_moved nil es = refl
    collects_moved (more s ss) nil = refl
    collects_moved (more s ss) (more e es) = rw (collect_moved s e, collects_moved ss es)

  -- at a return
  mutual
    unfolding retype folds

    folds_moved : (s : Tree) → folds Δ (retype f s) ≡ folds Γ s
    folds_moved (leaf t) = refl
    folds_moved (node t v ns) = rw (h.kinds t, foldss_moved ns)

    foldss_moved : (ss : Forest) → foldss Δ (retypes f ss) ≡ foldss Γ ss
    foldss_moved nil = refl
    foldss_moved (more s ss) = cc (folds_moved s, foldss_moved ss)

  -- of the arguments
  pub folds_at_ret_moved : (n : ℕ) (ss : Forest) → folds_at_ret Δ n (retypes f ss) ≡ folds_at_ret Γ n ss
  unfolding retypes folds_at_ret
  folds_at_ret_moved n nil = refl
  folds_at_ret_moved n (more s ss) = cc (firsts_moved f n ss, foldss_moved (firsts n ss))
