-- What is collected is made of statements on whole trees, by elements pushed on their places: what holds of `here`, and is kept by deref,
-- field and downcast, holds of each statement collected. No statement collected holds an index, and each tells a dash.
use Rattle.std.specs.Prelude.{◌≡◌, refl, true, false, Bool, ◌&&◌, List, map, ℕ, eqb}
use Rattle.model.specs.Types.{kind, pointer}
use Rattle.model.specs.Tree.{Tree, Forest, node, leaf, more, nil}
use Rattle.model.specs.Place.{downcast, deref, field, Verb, Statement, here, push, At, first, later, dash, no_index}
use Rattle.model.specs.Collect.{firsts, both, lift, folds_at_ret, collects, folds, foldss, collect, unfolds, folded, unfoldss}
use Rattle.base.specs.Tests.{split, cond_split}
use Rattle.base.specs.Answer.{good_bind, good_done, Good, good_cond, good_refused}
use Rattle.base.specs.Each.{each_append, Each, each_more, each_map, each_none}
use Rattle.laws.specs.Hops.{lift_deref, lift_cast, lift_field}

-- P holds of a statement on a whole tree, and is kept by an element pushed on
record Lifted (P : Statement → Type 0) : Type 0 where
  whole : (w : Verb) → P (here w)
  by_deref : (c : Statement) → P c → P (push deref c)
  by_field : (i : ℕ) (c : Statement) → P c → P (push (field i) c)
  by_cast : (v : ℕ) (c : Statement) → P c → P (push (downcast v) c)

module _ {P : Statement → Type 0} (L : Lifted P) where
  -- on one of several trees
  abbrev PAt : At → Type 0
  PAt a = P a.what

  -- a statement lifted to the node above
  lift_each : (full : Bool) (k v : ℕ) (a : At) → PAt a → P (lift full k v a)
  lift_each full k v a h =
      let c = a.what in
      let f = L.by_field a.number c h in
      split (pointer k)
      (λ e. rw (lift_deref full k v a e) (L.by_deref c h))
      (λ e. split (full && eqb k 7) (λ d. rw (lift_cast full k v a e d) (L.by_cast v (push (field a.number) c) f)) (λ d. rw (lift_field full k v a e d) f))

  -- statements lifted
  lifts_each : (full : Bool) (k v : ℕ) {l : List At} → Each PAt l → Each P (map (lift full k v) l)
  lifts_each full k v h = each_map (lift full k v) (lift_each full k v) h

  -- those of the first tree, and those of the others
  both_each : {l : List Statement} {r : List At} → Each P l → Each PAt r → Each PAt (both l r)
  both_each h k = each_append (each_map first (λ c e. e) h) (each_map later (λ a e. e) k)

  module _ (Γ : List ℕ) where
    -- what opens a folded tree
    mutual
      unfolding unfolds

      unfolds_each : (e : Tree) → Good (Each P) (unfolds Γ e)
      unfolds_each (leaf t) = good_done each_none
      unfolds_each (node t v ns) = good_cond _ (folded ns)
          (λ e. good_cond _ (eqb (kind Γ t) 7) (λ d. good_refused) (λ d. good_done (each_more (L.whole _) each_none)))
          (λ e. good_bind (unfoldss_each ns) (λ a h. good_done (lifts_each true (kind Γ t) v h)))

      unfoldss_each : (es : Forest) → Good (Each PAt) (unfoldss Γ es)
      unfoldss_each nil = good_done each_none
      unfoldss_each (more e es) = good_bind (unfolds_each e) (λ a h. good_bind (unfoldss_each es) (λ b k. good_done (both_each h k)))

    -- what leads from one tree to another
    mutual
      unfolding collect

      collect_each : (s e : Tree) → Good (Each P) (collect Γ s e)
      collect_each (leaf t) e = unfolds_each e
      collect_each (node t v ns) (leaf u) = good_done (each_more (L.whole _) each_none)
      collect_each (node t v ns) (node u w ms) = good_cond _ (eqb v w)
          (λ e. good_bind (collects_each ns ms) (λ a h. good_done (lifts_each false (kind Γ t) v h)))
          (λ e. good_refused)

      collects_each : (ss es : Forest) → Good (Each PAt) (collects Γ ss es)
      collects_each nil es = good_done each_none
      collects_each (more s ss) nil = good_done each_none
      collects_each (more s ss) (more e es) = good_bind (collect_each s e) (λ a h. good_bind (collects_each ss es) (λ b k. good_done (both_each h k)))

    -- what a return owes
    mutual
      unfolding folds

      folds_each : (s : Tree) → Each P (folds Γ s)
      folds_each (leaf t) = each_none
      folds_each (node t v ns) = cond_split (Each P) (eqb (kind Γ t) 1) (λ e. each_none) (λ e.
          cond_split (Each P) (eqb (kind Γ t) 2) (λ d. each_more (L.by_deref _ (L.whole _)) each_none) (λ d. lifts_each true (kind Γ t) v (foldss_each ns)))

      foldss_each : (ss : Forest) → Each PAt (foldss Γ ss)
      foldss_each nil = each_none
      foldss_each (more s ss) = both_each (folds_each s) (foldss_each ss)

    -- of the arguments
    folds_at_ret_each : (n : ℕ) (E : Forest) → Each PAt (folds_at_ret Γ n E)
    unfolding folds_at_ret
    folds_at_ret_each n nil = each_none
    folds_at_ret_each n (more s ss) = each_map later (λ a e. e) (foldss_each (firsts n ss))

-- NO INDEX

-- a statement without an index
abbrev pub Unindexed : Statement → Type 0
Unindexed c = no_index c.place ≡ true

-- on one of several trees
abbrev pub UnindexedAt : At → Type 0
UnindexedAt a = Unindexed a.what

unindexed : Lifted Unindexed
unindexed = record { whole = λ w. refl; by_deref = λ c h. h; by_field = λ i c h. h; by_cast = λ v c h. h }

-- A DASH (document 02, F-4)

abbrev pub Dashed : At → Type 0
Dashed a = a.what.told ≡ dash

dashed : Lifted (λ c. c.told ≡ dash)
dashed = record { whole = λ w. refl; by_deref = λ c h. h; by_field = λ i c h. h; by_cast = λ v c h. h }

module _ (Γ : List ℕ) where
  -- from one state to another
  pub collects_unindexed : (E D : Forest) → Good (Each UnindexedAt) (collects Γ E D)
  collects_unindexed E D = collects_each unindexed Γ E D

  pub collects_dashed : (E D : Forest) → Good (Each Dashed) (collects Γ E D)
  collects_dashed E D = collects_each dashed Γ E D

  -- at return
  pub folds_at_ret_unindexed : (n : ℕ) (E : Forest) → Each UnindexedAt (folds_at_ret Γ n E)
  folds_at_ret_unindexed n E = folds_at_ret_each unindexed Γ n E

  pub folds_at_ret_dashed : (n : ℕ) (E : Forest) → Each Dashed (folds_at_ret Γ n E)
  folds_at_ret_dashed n E = folds_at_ret_each dashed Γ n E
