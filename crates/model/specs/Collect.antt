-- The statements that lead from one state to another (`collect_fold_unfolds`), that open a folded one (`collect_unfolds`), and
-- that a return owes (`collect_folds_at_ret`). Each is a pair, over Tree and Forest; the statements of a forest bear the number
-- of their tree, and places are relative: an element is pushed on the way out.
use Rattle.std.specs.Prelude.{List, [], ◌∷◌, ◌++◌, map, Bool, true, false, cond, not, ◌&&◌, ◌||◌, ℕ, zero, suc, eqb}
use Rattle.std.proofs.Math.Option.{Option, none, some}
use Rattle.model.specs.Answer.{Answer, refused, done, ◌>>=◌, earlier}
use Rattle.model.specs.Types.{kind, pointer}
use Rattle.model.specs.Tree.{Tree, leaf, node, Forest, nil, more, type, unfolded}
use Rattle.model.specs.Place.{deref, field, downcast, Place, Fold, Unfold, Statement, here, push, under, At, first, later}

-- the way from a node of kind k, open at the variant v, to its child number i. full: below an enum the variant is named
unfoldable pub hop : Bool → ℕ → ℕ → ℕ → Place
hop full k v i = cond (pointer k) (deref ∷ []) (cond (full && eqb k 7) (downcast v ∷ field i ∷ []) (field i ∷ []))

unfoldable pub lift : Bool → ℕ → ℕ → At → Statement
lift full k v a = under (hop full k v a.number) a.what

-- the statements of the first of several trees, then those of the others
abbrev pub both : List Statement → List At → List At
both a b = map first a ++ map later b

-- all trees are folded (`all_leaves`)
abbrev pub folded : Forest → Bool
folded nil = true
folded (more s ss) = not (unfolded s) && folded ss

-- the first n trees
abbrev pub firsts : ℕ → Forest → Forest
firsts zero ss = nil
firsts (suc n) nil = nil
firsts (suc n) (more s ss) = more s (firsts n ss)

module _ (Γ : List ℕ) where
  -- what opens a folded tree until it is as this. 7: "a variant whose fields are all folded must be unfolded and the
  -- statement can't say which"
  unfoldable mutual
    pub unfolds : Tree → Answer (List Statement)
    unfolds (leaf t) = done []
    unfolds (node t v ns) = cond (folded ns)
        (cond (eqb (kind Γ t) 7) (refused 7) (done (here Unfold ∷ [])))
        (unfoldss ns >>= λ a. done (map (lift true (kind Γ t) v) a))

    pub unfoldss : Forest → Answer (List At)
    unfoldss nil = done []
    unfoldss (more s ss) = unfolds s >>= λ a. unfoldss ss >>= λ b. done (both a b)

  -- from the first to the second. 6: collecting meets another variant
  unfoldable mutual
    pub collect : Tree → Tree → Answer (List Statement)
    collect (leaf t) e = unfolds e
    collect (node t v ns) (leaf u) = done (here Fold ∷ [])
    collect (node t v ns) (node u w ms) = cond (eqb v w) (collects ns ms >>= λ a. done (map (lift false (kind Γ t) v) a)) (refused 6)

    pub collects : Forest → Forest → Answer (List At)
    collects nil es = done []
    collects (more s ss) nil = done []
    collects (more s ss) (more e es) = collect s e >>= λ a. collects ss es >>= λ b. done (both a b)

  -- what is owed at a return: the places behind mutable references, not those behind plain pointers
  unfoldable mutual
    pub folds : Tree → List Statement
    folds (leaf t) = []
    folds (node t v ns) = cond (eqb (kind Γ t) 1) []
        (cond (eqb (kind Γ t) 2) (push deref (here Fold) ∷ []) (map (lift true (kind Γ t) v) (foldss ns)))

    pub foldss : Forest → List At
    foldss nil = []
    foldss (more s ss) = both (folds s) (foldss ss)

  -- of the arguments, the locals 1 to A
  unfoldable pub folds_at_ret : ℕ → Forest → List At
  folds_at_ret n nil = []
  folds_at_ret n (more s ss) = map later (foldss (firsts n ss))

-- WHEN COLLECTING IS REFUSED, said of the trees alone: "6 or 7 exactly under the table's conditions". In preorder, local by local

module _ (Γ : List ℕ) where
  -- is there a bare variant, an open enum whose fields are all folded?
  unfoldable mutual
    pub bare : Tree → Bool
    bare (leaf t) = false
    bare (node t v ns) = (eqb (kind Γ t) 7 && folded ns) || bares ns

    pub bares : Forest → Bool
    bares nil = false
    bares (more s ss) = bare s || bares ss

  -- the first difference that no statement can settle, from the first tree to the second: 6 at two open nodes of different variants, 7 at a
  -- folded node that is to become a tree with a bare variant
  unfoldable mutual
    pub first_clash : Tree → Tree → Option ℕ
    first_clash (leaf t) e = cond (bare e) (some 7) none
    first_clash (node t v ns) (leaf u) = none
    first_clash (node t v ns) (node u w ms) = cond (eqb v w) (first_clashes ns ms) (some 6)

    pub first_clashes : Forest → Forest → Option ℕ
    first_clashes nil es = none
    first_clashes (more s ss) nil = none
    first_clashes (more s ss) (more e es) = earlier (first_clash s e) (first_clashes ss es)

-- WHAT A RETURN LEAVES: the places owed are folded, all else is as it was

-- the first of several trees is folded
abbrev pub fold_first : Forest → Forest
fold_first nil = nil
fold_first (more s ss) = more (leaf (type s)) ss

module _ (Γ : List ℕ) where
  -- what is behind an open mutable reference is folded; a plain pointer is not gone into
  unfoldable mutual
    pub returned : Tree → Tree
    returned (leaf t) = leaf t
    returned (node t v ns) = cond (eqb (kind Γ t) 1) (node t v ns)
        (cond (eqb (kind Γ t) 2) (node t v (fold_first ns)) (node t v (returneds ns)))

    pub returneds : Forest → Forest
    returneds nil = nil
    returneds (more s ss) = more (returned s) (returneds ss)

  -- of the first n trees
  abbrev pub returned_firsts : ℕ → Forest → Forest
  returned_firsts zero ss = ss
  returned_firsts (suc n) nil = nil
  returned_firsts (suc n) (more s ss) = more (returned s) (returned_firsts n ss)

  -- of the arguments, the locals 1 to n
  abbrev pub returned_at : ℕ → Forest → Forest
  returned_at n nil = nil
  returned_at n (more s ss) = more s (returned_firsts n ss)
