-- The variants of an enum: the one of a value, those that are not taken, and the one that is left, if it is one.
use mathlib.Core.Path.{◌≡◌, refl, sym, ap, ◌∙◌}
use mathlib.Core.Logic.{◌≢◌}
use mathlib.Core.Bool.{Bool, true, false}
use mathlib.Core.List.{List, [], ◌∷◌, ◌++◌}
use mathlib.Core.Option.{none, some}
use Prim.Native.Nat.{ℕ, zero, suc, ◌+◌, ◌≤◌, ◌<◌}
use native.Mathlib.Nat.{zero-add}
use native.Mathlib.Numerals.{add-one}
use native.Mathlib.Decide.{ℕ_discrete, dec_lt}
use native.Mathlib.Omega.{arith}
use borrow.Author.Tests.{eqb-true, eqb-false, eq-eqb, ne_eqb}
use lib.Dec.{eqb}
use lib.ListN.{length, set, length-append}
use lib.Seq.{get_or-set_same, get_or-set_other}
use Rattle.model.specs.Words.{word, collect_from}
use Rattle.model.specs.Types.{ntypes, kind, count, discriminant}
use Rattle.model.specs.Body.{Left, variants_from, variants, variant_of, without, only}
use Rattle.base.specs.Tests.{split, clash}
use Rattle.base.specs.Typed.{Typed, parts_inside}
use Rattle.base.specs.Collected.{collect_pass, collect_fail, collect_back_pass, collect_back_fail, collect_same}
use Rattle.body.specs.declared.arms.Rest.{Rest}
use Rattle.body.specs.Arms.{rest}
use Rattle.body.specs.Tries.{free}

-- value and number of the variant v
abbrev pub numbered : List ℕ → ℕ → ℕ → ℕ × ℕ
numbered Γ t v = (discriminant Γ t v, v)

module _ (Γ : List ℕ) (t x : ℕ) where
  -- THE VARIANT OF A VALUE, among n from v on

  -- none is left to look at
  pub seek_none : (v : ℕ) → variant_of x (variants_from Γ t 0 v) ≡ none
  unfolding variants_from variant_of
  seek_none v = refl

  -- the first
  pub seek_here : (n v : ℕ) → discriminant Γ t v ≡ x → variant_of x (variants_from Γ t (suc n) v) ≡ some v
  unfolding variants_from variant_of
  seek_here n v e = cc (eq-eqb (discriminant Γ t v) x e)

  -- a later one
  pub seek_later : (n v : ℕ) → discriminant Γ t v ≢ x → variant_of x (variants_from Γ t (suc n) v) ≡ variant_of x (variants_from Γ t n (suc v))
  unfolding variants_from variant_of
  seek_later n v d = cc (ne_eqb (discriminant Γ t v) x d)

  -- v is one of n from i on, of the value x
  pub record Seen (n i v : ℕ) : Type 0 where
    pub low : i ≤ v
    pub high : v < i + n
    pub value : discriminant Γ t v ≡ x

  -- what is found is
  pub seek_seen : (n i : ℕ) {v : ℕ} → variant_of x (variants_from Γ t n i) ≡ some v → Seen n i v
  seek_seen zero i e = clash (cc (seek_none i))
  seek_seen (suc n) i {v} e = elim (ℕ_discrete (discriminant Γ t i) x) [
    | yes d ↦ let z : i ≡ v = cc (seek_here n i d) in rw (← z) (record { low = omega arith; high = omega arith; value = d })
    | no d ↦
        let s = seek_seen n (suc i) {v = v} (cc (seek_later n i d)) in
        record { low = omega (arith, s.low); high = omega (arith, s.high); value = s.value }
  ]

  -- the variant of a value is one of the enum's
  pub variant_below : {v : ℕ} → variant_of x (variants Γ t) ≡ some v → v < count Γ t
  unfolding variants
  variant_below e = omega (arith, (seek_seen (count Γ t) 0 e).high)

  -- where none is found none has the value
  pub seek_unseen : (n i : ℕ) → variant_of x (variants_from Γ t n i) ≡ none → (j : ℕ) → i ≤ j → j < i + n → discriminant Γ t j ≢ x
  seek_unseen zero i e j l m = absurd (omega arith)
  seek_unseen (suc n) i e j l m = elim (ℕ_discrete (discriminant Γ t i) x) [
    | yes d ↦ clash (cc (seek_here n i d))
    | no d ↦ elim (ℕ_discrete i j) [
      | yes z ↦ rw z at d
      | no z ↦ seek_unseen n (suc i) (cc (seek_later n i d)) j (omega arith) (omega arith)
    ]
  ]

  -- THE SAME among those that pass p

  module _ (p : ℕ → Bool) where
    abbrev drawn : ℕ → ℕ → Left
    drawn = collect_from p (numbered Γ t)

    abbrev drawn_pass : (n i : ℕ) → p i ≡ true → drawn (suc n) i ≡ (discriminant Γ t i, i) ∷ drawn n (suc i)
    drawn_pass = collect_pass p (numbered Γ t)

    abbrev drawn_fail : (n i : ℕ) → p i ≡ false → drawn (suc n) i ≡ drawn n (suc i)
    drawn_fail = collect_fail p (numbered Γ t)

    -- it is found if it passes
    drawn_kept : (n i : ℕ) {v : ℕ} → variant_of x (variants_from Γ t n i) ≡ some v → p v ≡ true → variant_of x (drawn n i) ≡ some v
    unfolding variants_from variant_of collect_from
    drawn_kept zero i e q = e
    drawn_kept (suc n) i {v} e q = split (eqb (discriminant Γ t i) x)
        (λ d. let z : i ≡ v = cc in let y : p i ≡ true = rw z q in cc (drawn_pass n i y))
        (λ d. let h = drawn_kept n (suc i) {v = v} (cc) q in split (p i) (λ y. cc (drawn_pass n i y)) (λ y. cc (drawn_fail n i y)))

    -- none is where none that passes has the value
    drawn_lost : (n i : ℕ) → ((j : ℕ) → i ≤ j → j < i + n → p j ≡ true → discriminant Γ t j ≢ x) → variant_of x (drawn n i) ≡ none
    unfolding variant_of collect_from
    drawn_lost zero i h = refl
    drawn_lost (suc n) i h =
        let k = drawn_lost n (suc i) (λ j l m y. h j (omega arith) (omega arith) y) in
        split (p i)
        (λ y. cc (drawn_pass n i y, ne_eqb (discriminant Γ t i) x (h i (omega arith) (omega arith) y)))
        (λ y. cc (drawn_fail n i y))

    -- what is found lies there
    drawn_low : (n i : ℕ) {v : ℕ} → variant_of x (drawn n i) ≡ some v → i ≤ v
    unfolding variant_of collect_from
    drawn_low zero i e = clash (cc)
    drawn_low (suc n) i {v} e = split (p i)
        (λ y. split (eqb (discriminant Γ t i) x)
        (λ d. let z : i ≡ v = cc (drawn_pass n i y) in omega arith)
        (λ d. omega (arith, drawn_low n (suc i) {v = v} (cc (drawn_pass n i y)))))
        (λ y. omega (arith, drawn_low n (suc i) {v = v} (cc (drawn_fail n i y))))

    -- without it are those that pass a test that it alone fails besides
    drawn_without : (q : ℕ → Bool) (v : ℕ) → q v ≡ false → ((j : ℕ) → j ≢ v → q j ≡ p j) → (n i : ℕ) → variant_of x (drawn n i) ≡ some v
        → collect_from q (numbered Γ t) n i ≡ without x (drawn n i)
    unfolding variant_of without collect_from
    drawn_without q v f g zero i e = clash (cc)
    drawn_without q v f g (suc n) i e = split (p i)
        (λ y. split (eqb (discriminant Γ t i) x)
        (λ d.
        let z : i ≡ v = cc (drawn_pass n i y) in
        let w : q i ≡ false = rw z f in
        let s = collect_same q p (numbered Γ t) (numbered Γ t) n (suc i) (λ j l m. g j (λ u. omega arith)) (λ j l m. refl) in
        cc (drawn_pass n i y, collect_fail q (numbered Γ t) n i w))
        (λ d.
        let r : variant_of x (drawn n (suc i)) ≡ some v = cc (drawn_pass n i y) in
        let w : q i ≡ p i = g i (λ u. omega (arith, drawn_low n (suc i) r)) in
        let k = drawn_without q v f g n (suc i) r in
        cc (drawn_pass n i y, collect_pass q (numbered Γ t) n i (w ∙ y))))
        (λ y.
        let r : variant_of x (drawn n (suc i)) ≡ some v = cc (drawn_fail n i y) in
        let w : q i ≡ p i = g i (λ u. omega (arith, drawn_low n (suc i) r)) in
        let k = drawn_without q v f g n (suc i) r in
        cc (drawn_fail n i y, collect_fail q (numbered Γ t) n i (w ∙ y)))

-- THOSE THAT ARE NOT TAKEN

module _ (Γ : List ℕ) (t : ℕ) (taken : List ℕ) where
  -- is the variant v not taken?
  abbrev untaken : ℕ → Bool
  untaken v = eqb (word taken v) 0

  -- of the first n
  pub free_below : ℕ → Left
  free_below n = collect_from untaken (numbered Γ t) n 0

  -- where none is taken they are all
  pub free_all : ((v : ℕ) → v < count Γ t → word taken v ≡ 0) → free Γ t taken ≡ variants Γ t
  unfolding free variants variants_from collect_from
  free_all h = go (count Γ t) 0 (λ v l. h v (omega arith))
    where
      go : (n i : ℕ) → ((v : ℕ) → v < i + n → word taken v ≡ 0) → collect_from untaken (numbered Γ t) n i ≡ variants_from Γ t n i
      go zero i h = refl
      go (suc n) i h = collect_pass untaken (numbered Γ t) n i (eq-eqb (word taken i) 0 (h i (omega arith)))
          ∙ ap (λ (ds : Left). numbered Γ t i ∷ ds) (go n (suc i) (λ v l. h v (omega arith)))

  module _ (x : ℕ) where
    -- a value without a variant has none among them
    pub free_unknown : variant_of x (variants Γ t) ≡ none → variant_of x (free Γ t taken) ≡ none
    unfolding free variants
    free_unknown e = drawn_lost Γ t x untaken (count Γ t) 0 (λ j l m y. seek_unseen Γ t x (count Γ t) 0 e j l m)

    module _ {v : ℕ} (e : variant_of x (variants Γ t) ≡ some v) where
      -- it is found if it is not taken
      pub free_kept : word taken v ≡ 0 → variant_of x (free Γ t taken) ≡ some v
      unfolding free variants
      free_kept z = drawn_kept Γ t x untaken (count Γ t) 0 e (eq-eqb (word taken v) 0 z)

      -- and not if it is, since no other variant has the value
      pub free_lost : Typed Γ → t < ntypes Γ → kind Γ t ≡ 7 → word taken v ≢ 0 → variant_of x (free Γ t taken) ≡ none
      unfolding free variants
      free_lost T l k z =
          let s = seek_seen Γ t x (count Γ t) 0 e in
          drawn_lost Γ t x untaken (count Γ t) 0 (λ j _ m y d.
          let w : word taken j ≡ 0 = eqb-true (word taken j) 0 y in
          elim (dec_lt j v) [
            | yes u ↦ T.differ t l k j v u (omega (arith, s.high)) (d ∙ sym s.value)
            | no u ↦ elim (dec_lt v j) [ yes r ↦ T.differ t l k v j r (omega arith) (s.value ∙ sym d) | no r ↦ let q : j ≡ v = omega arith in z (rw q at w) ]
          ])

      -- once it is taken the others are left
      pub free_without : v < length taken → word taken v ≡ 0 → free Γ t (set taken v 1) ≡ without x (free Γ t taken)
      unfolding free
      free_without l z = drawn_without Γ t x untaken (λ j. eqb (word (set taken v 1) j) 0) v
          (ap (λ (w : ℕ). eqb w 0) (get_or-set_same taken v 1 0 l)) (λ j u. ap (λ (w : ℕ). eqb w 0) (get_or-set_other taken v j 1 0 u)) (count Γ t) 0 (free_kept z)

-- THE ONE THAT IS LEFT

-- k are left, and o is the last
pub record Counts (k o : ℕ) (ds : Left) : Type 0 where
  pub many : length ds ≡ k
  pub last : k ≡ 1 → only ds ≡ some o

-- one more
counts_more : {k o : ℕ} {ds : Left} (d : ℕ × ℕ) → Counts k o ds → Counts (k + 1) d.1 (ds ++ (d ∷ []))
unfolding only
counts_more {k} {o} {ds} d C = record { many = simp length-append (omega (arith, C.many)); last = λ e. go ds (omega (arith, C.many)) }
  where
    go : (cs : Left) → length cs ≡ 0 → only (cs ++ (d ∷ [])) ≡ some d.1
    go [] z = refl
    go (c ∷ cs) z = absurd (omega arith)

-- as the code has them
abbrev rest_in : ℕ → ℕ → Rest
rest_in k o = record { left = k; other = o }

-- it is left, if it is one
counts_rest : {k o : ℕ} (ds : Left) → Counts k o ds → rest (rest_in k o) ≡ only ds
unfolding rest only
counts_rest {k} {o} ds C = split (eqb k 1) (λ e. cc (C.last (eqb-true k 1 e))) (λ e. go ds C.many e)
  where
    go : (cs : Left) → length cs ≡ k → eqb k 1 ≡ false → rest (rest_in k o) ≡ only cs
    go [] z e = cc
    go (c ∷ []) z e = absurd (eqb-false k 1 e (omega arith))
    go (c ∷ (b ∷ cs)) z e = cc

-- before the first variant none is counted
pub counts_first : (Γ : List ℕ) (t : ℕ) (taken : List ℕ) → Counts 0 0 (free_below Γ t taken 0)
unfolding free_below collect_from
counts_first Γ t taken = record { many = refl; last = λ e. absurd (omega arith) }

module _ (Γ : List ℕ) (t : ℕ) (taken : List ℕ) (v : ℕ) {k o : ℕ} (C : Counts k o (free_below Γ t taken v)) where
  -- the variant v is left
  pub counts_left : word taken v ≡ 0 → Counts (k + 1) v (free_below Γ t taken (v + 1))
  unfolding free_below
  counts_left e = rw (add-one v, collect_back_pass (untaken Γ t taken) (numbered Γ t) v 0 (rw zero-add (eq-eqb (word taken v) 0 e)), zero-add v) (counts_more (numbered Γ t v) C)

  -- it is taken
  pub counts_taken : word taken v ≢ 0 → Counts k o (free_below Γ t taken (v + 1))
  unfolding free_below
  counts_taken d = rw (add-one v, collect_back_fail (untaken Γ t taken) (numbered Γ t) v 0 (rw zero-add (ne_eqb (word taken v) 0 d))) C

  -- it is past the last
  pub counts_all : v ≡ count Γ t → rest (rest_in k o) ≡ only (free Γ t taken)
  unfolding free free_below
  counts_all e = counts_rest _ (rw e at C)

-- an enum has at most as many variants as the array has entries
pub count_few : {Γ : List ℕ} {t : ℕ} → Typed Γ → t < ntypes Γ → count Γ t ≤ 16384
count_few {t} T l = omega (arith, parts_inside T t l, T.few_parts)
