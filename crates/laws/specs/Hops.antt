-- The central lemma of the collected statements: carried out on an open node, a statement that was lifted from its child
-- number i works on that child alone; and on the folded node it does what it does on the node opened.
use Rattle.std.specs.Prelude.{◌≡◌, Bool, true, false, ◌&&◌, List, map, ℕ, zero, suc}
use Rattle.std.proofs.Common.{sym, ◌∙◌, true≢false, lt-ltb, eqb-true, eq-eqb, ne_eqb}
use Rattle.std.proofs.Math.Path.{refl}
use Rattle.std.proofs.Math.Dec.{eqb}
use Rattle.model.specs.Answer.{done, ◌>>=◌}
use Rattle.model.specs.Types.{pointer, fielded, casts, kind, count}
use Rattle.model.specs.Tree.{Tree, leaf, node, Forest, nil, more, type}
use Rattle.model.specs.Typing.{Openable}
use Rattle.model.specs.Place.{here, deref, field, downcast, Statement, push, At, first, later, Fold}
use Rattle.model.specs.Walk.{nth, enter, opened, step, walk, carry, carry_at, carries, carries_at}
use Rattle.model.specs.Collect.{hop, lift, both}
use Rattle.base.specs.Tests.{split, eqb_same, and_right}
use Rattle.base.specs.Answer.{Good, good_refused, good_done, good_bind, good_self, good_same, good_at, run_append, run_sim}
use Rattle.base.specs.Kinds.{open_cases, pointer_not_enum, fielded_not_enum, fielded_not_pointer, enum_not_pointer, openable_not_shut}
use Rattle.laws.specs.Sound.{Single, single, Sound}

-- the three ways to a child
module _ (full : Bool) (k v : ℕ) (a : At) where
  -- below a pointer
  pub lift_deref : pointer k ≡ true → lift full k v a ≡ push deref a.what
  unfolding lift hop
  lift_deref e = cc

  -- below an enum, where the variant is named
  pub lift_cast : pointer k ≡ false → full && eqb k 7 ≡ true
      → lift full k v a ≡ push (downcast v) (push (field a.number) a.what)
  unfolding lift hop
  lift_cast e d = cc

  -- below any other node
  pub lift_field : pointer k ≡ false → full && eqb k 7 ≡ false → lift full k v a ≡ push (field a.number) a.what
  unfolding lift hop
  lift_field e d = cc

module _ (Γ : List ℕ) where
  -- to fold a tree
  pub fold_here : (s : Tree) → carry Γ (here Fold) s ≡ done (leaf (type s))
  unfolding carry walk
  fold_here s = refl

  -- a pushed statement, at an open node
  module _ (c : Statement) (t v : ℕ) (ns : Forest) where
    -- through a pointer
    pub carry_deref : pointer (kind Γ t) ≡ true
        → carry Γ (push deref c) (node t v ns) ≡ nth 0 (carry Γ c) ns >>= λ us. done (node t v us)
    unfolding carry walk step enter
    carry_deref e = cc

    -- through a field
    pub carry_field : (i : ℕ) → pointer (kind Γ t) ≡ false
        → carry Γ (push (field i) c) (node t v ns) ≡ nth i (carry Γ c) ns >>= λ us. done (node t v us)
    unfolding carry walk step enter
    carry_field i e = cc

    -- through a downcast
    pub carry_cast : casts Γ t v ≡ true
        → carry Γ (push (downcast v) c) (node t v ns) ≡ carry Γ c (node t v ns)
    unfolding carry walk step enter
    carry_cast e = cc (eqb_same v)

  -- below a pointer, the number is 0
  hop_deref : {t v : ℕ} → pointer (kind Γ t) ≡ true → (i : ℕ) (c : Statement) {ns : Forest} → Single ns
      → Good (λ us. Single us × (carry Γ (push deref c) (node t v ns) ≡ done (node t v us))) (nth i (carry Γ c) ns)
  hop_deref {t} {v} e zero c (single {s}) =
      good_bind (good_self (carry Γ c s)) (λ u d. good_done (single, cc (carry_deref c t v (more s nil) e)))
  hop_deref e (suc i) c single = good_refused

  -- an open enum's variant is one of its type's
  pub casts_enum : {t v : ℕ} → Openable Γ t v → eqb (kind Γ t) 7 ≡ true → casts Γ t v ≡ true
  unfolding casts
  casts_enum {t} {v} o e = cc (lt-ltb v (count Γ t) (o.ranged (eqb-true (kind Γ t) 7 e)))

  module _ (full : Bool) {t v : ℕ} (o : Openable Γ t v) where
    -- one child alone
    pub hop_carry : (a : At) (ns : Forest) → (pointer (kind Γ t) ≡ true → Single ns)
        → Good (λ us. (pointer (kind Γ t) ≡ true → Single us) × (carry Γ (lift full (kind Γ t) v a) (node t v ns) ≡ done (node t v us)))
        (carry_at Γ a ns)
    unfolding carry_at
    hop_carry a ns h =
        let c = a.what in
        let i = a.number in
        split (pointer (kind Γ t))
        (λ e. good_same (λ us d. (λ p. d.0, cc (lift_deref full (kind Γ t) v a e))) (hop_deref {t = t} {v = v} e i c (h e)))
        (λ e. good_same (λ us d. (
          λ p. absurd (true≢false (sym p ∙ e)),
          split (full && eqb (kind Γ t) 7)
              (λ q.
              let r = and_right full (eqb (kind Γ t) 7) q in
              cc (lift_cast full (kind Γ t) v a e q, carry_cast (push (field i) c) t v ns (casts_enum o r), carry_field c t v ns i e))
              (λ q. cc (lift_field full (kind Γ t) v a e q, carry_field c t v ns i e)),
        )) (good_self (nth i (carry Γ c) ns)))

  -- at a folded node
  module _ (c : Statement) (t : ℕ) where
    -- a deref
    leaf_deref : pointer (kind Γ t) ≡ true
        → carry Γ (push deref c) (leaf t) ≡ carry Γ (push deref c) (opened Γ t 0)
    unfolding carry walk step enter opened
    leaf_deref e = cc

    -- a field
    leaf_field : (i : ℕ) → fielded (kind Γ t) ≡ true → pointer (kind Γ t) ≡ false
        → carry Γ (push (field i) c) (leaf t) ≡ carry Γ (push (field i) c) (opened Γ t 0)
    unfolding carry walk step enter opened
    leaf_field i e d = cc

    -- a downcast
    leaf_cast : (v : ℕ) → casts Γ t v ≡ true
        → carry Γ (push (downcast v) c) (leaf t) ≡ carry Γ (push (downcast v) c) (opened Γ t v)
    unfolding carry walk step enter opened
    leaf_cast v e = cc (eqb_same v)

  -- a statement on a child opens the folded node first
  pub hop_leaf : Sound Γ → {t v : ℕ} → Openable Γ t v → (a : At)
      → carry Γ (lift true (kind Γ t) v a) (leaf t) ≡ carry Γ (lift true (kind Γ t) v a) (opened Γ t v)
  hop_leaf y {t} {v} o a =
      let c = a.what in
      let i = a.number in
      let k = kind Γ t in
      open_cases k (y.known t) (openable_not_shut o)
      (λ e.
      let r = eq-eqb k 7 e in
      cc (lift_cast true k v a (enum_not_pointer k e) r, leaf_cast (push (field i) c) t v (casts_enum o r)))
      (λ e. cc (lift_deref true k v a e, leaf_deref c t e, o.plain (pointer_not_enum k e)))
      (λ e.
      let n = fielded_not_enum k e in
      let d = fielded_not_pointer k e in
      let z : v ≡ 0 = o.plain n in
      cc (lift_field true k v a d (ne_eqb k 7 n), leaf_field c t i e d))

  -- the same for lists
  pub lift_run : (full : Bool) {t v : ℕ} → Openable Γ t v → (a : List At) {ns us : Forest}
      → (pointer (kind Γ t) ≡ true → Single ns) → carries_at Γ a ns ≡ done us
      → carries Γ (map (lift full (kind Γ t) v) a) (node t v ns) ≡ done (node t v us)
  lift_run full {t} {v} o a {ns} h e = good_at (run_sim (carry_at Γ) (carry Γ) (lift full (kind Γ t) v)
      (node t v) (λ us. pointer (kind Γ t) ≡ true → Single us) (hop_carry full o) a ns h) e

  -- a statement on the first of several trees
  first_sim : (ss : Forest) (c : Statement) (s : Tree) → Unit {0}
      → Good (λ u. Unit {0} × (carry_at Γ (first c) (more s ss) ≡ done (more u ss))) (carry Γ c s)
  unfolding carry_at
  first_sim ss c s o = good_same (λ u e. (tt, cc)) (good_self (carry Γ c s))

  -- on one of the others
  later_sim : (s : Tree) (a : At) (ss : Forest) → Unit {0}
      → Good (λ us. Unit {0} × (carry_at Γ (later a) (more s ss) ≡ done (more s us))) (carry_at Γ a ss)
  unfolding carry_at
  later_sim s a ss o = good_same (λ u e. (tt, cc)) (good_self (carry_at Γ a ss))

  -- the statements of the first of several trees; of the others; and of both
  pub first_run : (a : List Statement) (s : Tree) (ss : Forest) {u : Tree} → carries Γ a s ≡ done u
      → carries_at Γ (map first a) (more s ss) ≡ done (more u ss)
  first_run a s ss e = good_at (run_sim (carry Γ) (carry_at Γ) first (λ w. more w ss) (λ w. Unit {0})
      (first_sim ss) a s tt) e

  -- of the others
  pub later_run : (a : List At) (s : Tree) (ss : Forest) {us : Forest} → carries_at Γ a ss ≡ done us
      → carries_at Γ (map later a) (more s ss) ≡ done (more s us)
  later_run a s ss e = good_at (run_sim (carry_at Γ) (carry_at Γ) later (more s) (λ w. Unit {0})
      (later_sim s) a ss tt) e

  -- and of both
  pub both_run : (a : List Statement) (b : List At) (s : Tree) (ss : Forest) {u : Tree} {us : Forest} → carries Γ a s ≡ done u
      → carries_at Γ b ss ≡ done us → carries_at Γ (both a b) (more s ss) ≡ done (more u us)
  both_run a b s ss {u} e d =
      cc (run_append (carry_at Γ) (map first a) (map later b) (more s ss), first_run a s ss e, later_run b u ss d)
