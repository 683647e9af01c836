-- What a type record that passes is known to say: `types_typed`; and that what code reads of it lies inside it.
use Rattle.std.specs.Prelude.{◌≡◌, ◌≢◌, ◌&&◌, List, [], ◌∷◌, ℕ, ◌+◌, ◌-◌, ◌≤◌, ◌<◌, length}
use Rattle.std.proofs.Common.{◌∙◌, arith}
use Rattle.std.proofs.Math.Path.{ap, subst}
use Rattle.std.proofs.Math.Bool.{Bool, true, not, true≢false}
use Rattle.std.proofs.Math.Decide.{ℕ_discrete}
use Rattle.std.proofs.Math.Dec.{eqb, ltb, leb}
use borrow.Author.Tests.{ltb-true, leb-true, eqb-true, eqb-false, not-true}
use Rattle.model.specs.Words.{word, all}
use Rattle.model.specs.Types.{ntypes, nparts, kind, count, offset, part, pointer, fielded, parts, owner, first, kids, discriminant, type_sizes, counts_add, field_ok, fields_ok, pointee_ok, variant_ok, variants_ok, type_ok, types_ok}
use Rattle.model.specs.Typing.{Openable}
use Rattle.model.specs.State.{local_ok, locals_ok}
use Rattle.base.specs.Tests.{and_left, and_right}
use Rattle.base.specs.Below.{all_at, sum_room}
use Rattle.base.specs.Kinds.{Known, types_sized, types_counted, types_each, types_known, pointer_cases, fielded_cases, open_cases, kind_known, pointer_not_enum, fielded_not_enum, openable_not_shut}
use Rattle.base.specs.Parts.{owner_enum, owner_other, first_enum, first_other, kids_other}

-- a part that is a place's type, below n
pub record Placed (Γ : List ℕ) (n t j : ℕ) : Type 0 where
  pub below : part Γ t j < n
  pub no_variant : kind Γ (part Γ t j) ≢ 8

-- a part that is a variant, below its enum
pub record Variant (Γ : List ℕ) (t j : ℕ) : Type 0 where
  pub below : part Γ t j < t
  pub is_variant : kind Γ (part Γ t j) ≡ 8

-- what the words of a type record say
pub record Typed (Γ : List ℕ) : Type 0 where
  pub some : 1 ≤ ntypes Γ
  pub few : ntypes Γ ≤ 4096
  pub few_parts : nparts Γ ≤ 16384
  pub long : length Γ ≡ 2 + ntypes Γ + ntypes Γ + nparts Γ
  pub added : offset Γ (ntypes Γ) ≡ nparts Γ
  pub known : Known Γ
  pub opaque : (t : ℕ) → t < ntypes Γ → kind Γ t ≡ 0 → count Γ t ≡ 0
  pub array : (t : ℕ) → t < ntypes Γ → kind Γ t ≡ 4 → count Γ t ≡ 0
  pub pointers : (t : ℕ) → t < ntypes Γ → pointer (kind Γ t) ≡ true → count Γ t ≡ 1
  pub pointees : (t : ℕ) → t < ntypes Γ → pointer (kind Γ t) ≡ true → Placed Γ (ntypes Γ) t 0
  pub fields : (t : ℕ) → t < ntypes Γ → fielded (kind Γ t) ≡ true → (j : ℕ) → j < count Γ t → Placed Γ t t j
  pub variants : (t : ℕ) → t < ntypes Γ → kind Γ t ≡ 7 → (j : ℕ) → j < count Γ t → Variant Γ t j
  pub differ : (t : ℕ) → t < ntypes Γ → kind Γ t ≡ 7 → (i j : ℕ) → i < j → j < count Γ t → discriminant Γ t i ≢ discriminant Γ t j
  pub discriminated : (t : ℕ) → t < ntypes Γ → kind Γ t ≡ 8 → 1 ≤ count Γ t
  pub payload : (t : ℕ) → t < ntypes Γ → kind Γ t ≡ 8 → (j : ℕ) → 1 ≤ j → j < count Γ t → Placed Γ t t j

module _ (Γ : List ℕ) (e : type_sizes Γ ≡ true) where
  -- the four tests of the sizes
  sized : (1 ≤ ntypes Γ) × (ntypes Γ ≤ 4096) × (nparts Γ ≤ 16384) × (length Γ ≡ 2 + ntypes Γ + ntypes Γ + nparts Γ)
  unfolding type_sizes
  sized =
      let a : Bool = leb 1 (ntypes Γ) in
      let b : Bool = leb (ntypes Γ) 4096 in
      let c : Bool = leb (nparts Γ) 16384 in
      let d : Bool = eqb (length Γ) (2 + ntypes Γ + ntypes Γ + nparts Γ) in
      let abc : a && b && c ≡ true = and_left (a && b && c) d e in
      let ab : a && b ≡ true = and_left (a && b) c abc in (
        leb-true 1 (ntypes Γ) (and_left a b ab),
        leb-true (ntypes Γ) 4096 (and_right a b ab),
        leb-true (nparts Γ) 16384 (and_right (a && b) c abc),
        eqb-true (length Γ) _ (and_right (a && b && c) d e),
      )

module _ (Γ : List ℕ) (t : ℕ) where
  -- a field that passes
  field_placed : (j : ℕ) → field_ok Γ t j ≡ true → Placed Γ t t j
  unfolding field_ok
  field_placed j e =
      record {
        below = ltb-true (part Γ t j) t (and_left (ltb (part Γ t j) t) (not (eqb (kind Γ (part Γ t j)) 8)) e);
        no_variant = eqb-false (kind Γ (part Γ t j)) 8 (not-true _ (and_right (ltb (part Γ t j) t) (not (eqb (kind Γ (part Γ t j)) 8)) e));
      }

  -- fields that pass, from part k on
  fields_placed : (k : ℕ) → fields_ok Γ t k ≡ true → (j : ℕ) → k ≤ j → j < count Γ t → Placed Γ t t j
  unfolding fields_ok
  fields_placed k e j l h =
      subst (Placed Γ t t) (omega arith)
      (field_placed (k + (j - k)) (all_at (λ i. field_ok Γ t (k + i)) (count Γ t - k) e (j - k) (omega arith)))

  -- a pointee that passes is one
  pointee_one : pointee_ok Γ t ≡ true → count Γ t ≡ 1
  unfolding pointee_ok
  pointee_one e =
      eqb-true (count Γ t) 1 (and_left _ (ltb (part Γ t 0) (ntypes Γ)) (and_left _ (not (eqb (kind Γ (part Γ t 0)) 8)) e))

  -- and its type
  pointee_placed : pointee_ok Γ t ≡ true → Placed Γ (ntypes Γ) t 0
  unfolding pointee_ok
  pointee_placed e =
      let a : Bool = eqb (count Γ t) 1 in
      let b : Bool = ltb (part Γ t 0) (ntypes Γ) in
      let c : Bool = not (eqb (kind Γ (part Γ t 0)) 8) in
      record {
        below = ltb-true (part Γ t 0) (ntypes Γ) (and_right a b (and_left (a && b) c e));
        no_variant = eqb-false (kind Γ (part Γ t 0)) 8 (not-true _ (and_right (a && b) c e));
      }

  -- variants that pass
  variant_passes : variants_ok Γ t ≡ true → (j : ℕ) → j < count Γ t → variant_ok Γ t j ≡ true
  unfolding variants_ok
  variant_passes e = all_at (variant_ok Γ t) (count Γ t) e

  -- a variant that passes
  variant_is : (j : ℕ) → variant_ok Γ t j ≡ true → Variant Γ t j
  unfolding variant_ok
  variant_is j e =
      let a : Bool = ltb (part Γ t j) t in
      let b : Bool = eqb (kind Γ (part Γ t j)) 8 in
      let ab : a && b ≡ true = and_left (a && b) _ e in
      record { below = ltb-true (part Γ t j) t (and_left a b ab); is_variant = eqb-true (kind Γ (part Γ t j)) 8 (and_right a b ab) }

  -- and its discriminant
  variant_differs : (i j : ℕ) → i < j → variant_ok Γ t j ≡ true → discriminant Γ t i ≢ discriminant Γ t j
  unfolding variant_ok
  variant_differs i j h e =
      eqb-false (discriminant Γ t i) (discriminant Γ t j)
      (not-true _ (all_at (λ k. not (eqb (discriminant Γ t k) (discriminant Γ t j))) j (and_right (ltb (part Γ t j) t && eqb (kind Γ (part Γ t j)) 8) _ e) i h))

  -- what a type that passes has passed, by its kind
  module _ (e : type_ok Γ t ≡ true) where
    -- an opaque type has no part
    by_opaque : kind Γ t ≡ 0 → count Γ t ≡ 0
    unfolding type_ok
    by_opaque k = eqb-true (count Γ t) 0 (cc)

    -- nor has an array
    by_array : kind Γ t ≡ 4 → count Γ t ≡ 0
    unfolding type_ok
    by_array k = eqb-true (count Γ t) 0 (cc)

    -- a pointer's pointee passes
    by_pointer : pointer (kind Γ t) ≡ true → pointee_ok Γ t ≡ true
    unfolding type_ok pointer
    by_pointer k = pointer_cases (kind Γ t) k (λ h. cc) (λ h. cc) (λ h. cc)

    -- a struct's fields pass
    by_fields : fielded (kind Γ t) ≡ true → fields_ok Γ t 0 ≡ true
    unfolding type_ok pointer fielded
    by_fields k = fielded_cases (kind Γ t) k (λ h. cc) (λ h. cc) (λ h. cc) (λ h. cc)

    -- an enum's variants pass
    by_variants : kind Γ t ≡ 7 → variants_ok Γ t ≡ true
    unfolding type_ok pointer fielded
    by_variants k = cc

    -- a variant has a discriminant, and its fields pass
    by_variant : kind Γ t ≡ 8 → leb 1 (count Γ t) && fields_ok Γ t 1 ≡ true
    unfolding type_ok pointer fielded
    by_variant k = cc

-- what a record that passes says
pub types_typed : (Γ : List ℕ) → types_ok Γ ≡ true → Typed Γ
unfolding counts_add
types_typed Γ e =
    let z = sized Γ (types_sized Γ e) in
    let ok : (t : ℕ) → t < ntypes Γ → type_ok Γ t ≡ true = types_each Γ e in
    let rest : (t : ℕ) → t < ntypes Γ → kind Γ t ≡ 8 → leb 1 (count Γ t) && fields_ok Γ t 1 ≡ true = λ t l k. by_variant Γ t (ok t l) k in
    record {
      some = z.0;
      few = z.1;
      few_parts = z.2;
      long = z.3;
      added = eqb-true (offset Γ (ntypes Γ)) (nparts Γ) (types_counted Γ e);
      known = types_known Γ e;
      opaque = λ t l k. by_opaque Γ t (ok t l) k;
      array = λ t l k. by_array Γ t (ok t l) k;
      pointers = λ t l k. pointee_one Γ t (by_pointer Γ t (ok t l) k);
      pointees = λ t l k. pointee_placed Γ t (by_pointer Γ t (ok t l) k);
      fields = λ t l k j h. fields_placed Γ t 0 (by_fields Γ t (ok t l) k) j (omega arith) h;
      variants = λ t l k j h. variant_is Γ t j (variant_passes Γ t (by_variants Γ t (ok t l) k) j h);
      differ = λ t l k i j h m. variant_differs Γ t i j h (variant_passes Γ t (by_variants Γ t (ok t l) k) j m);
      discriminated = λ t l k. leb-true 1 (count Γ t) (and_left (leb 1 (count Γ t)) (fields_ok Γ t 1) (rest t l k));
      payload = λ t l k j h m. fields_placed Γ t 1 (and_right (leb 1 (count Γ t)) (fields_ok Γ t 1) (rest t l k)) j h m;
    }

-- a wider bound
placed_wider : {Γ : List ℕ} {m n t j : ℕ} → Placed Γ m t j → m ≤ n → Placed Γ n t j
placed_wider h l = record { below = omega (arith, h.below); no_variant = h.no_variant }

module _ {Γ : List ℕ} (h : Typed Γ) where
  -- its parts are among the record's parts
  pub parts_inside : (t : ℕ) → t < ntypes Γ → offset Γ t + count Γ t ≤ nparts Γ
  unfolding offset
  parts_inside t l = omega (arith, sum_room (count Γ) t (ntypes Γ) l, h.added)

  -- so each lies inside the record
  pub part_inside : (t j : ℕ) → t < ntypes Γ → j < count Γ t → 2 + ntypes Γ + ntypes Γ + offset Γ t + j < length Γ
  part_inside t j l m = omega (arith, parts_inside t l)

  -- a pointer has one child
  pub kids_pointer : (t v : ℕ) → pointer (kind Γ t) ≡ true → kids Γ t v ≡ part Γ t 0 ∷ []
  unfolding pointer parts
  kids_pointer t v k =
      let l : t < ntypes Γ = kind_known Γ t (λ z. true≢false (cc)) in
      kids_other Γ t v (pointer_not_enum (kind Γ t) k) ∙ ap (parts Γ t 0) (h.pointers t l k)

  module _ (t v : ℕ) (l : t < ntypes Γ) (r : kind Γ t ≡ 7 → v < count Γ t) where
    -- whose parts the children at v are is a type of the record
    pub owner_inside : owner Γ t v < ntypes Γ
    owner_inside =
        elim (ℕ_discrete (kind Γ t) 7) [
          | yes e ↦ rw (owner_enum Γ t v e) (omega (arith, (h.variants t l e v (r e)).below))
          | no f ↦ rw (owner_other Γ t v f) l
        ]

    -- and has the part from which on they are
    pub first_inside : first Γ t ≤ count Γ (owner Γ t v)
    first_inside =
        elim (ℕ_discrete (kind Γ t) 7) [
          | yes e ↦
              let w = h.variants t l e v (r e) in
              rw (first_enum Γ t v e, owner_enum Γ t v e) (h.discriminated (part Γ t v) (omega (arith, w.below)) w.is_variant)
          | no f ↦ rw (first_other Γ t v f) (omega arith)
        ]

  module _ (t v : ℕ) (l : t < ntypes Γ) (o : Openable Γ t v) where
    -- of an open node: whose parts its children are is a type of the record
    pub owner_known : owner Γ t v < ntypes Γ
    owner_known = owner_inside t v l o.ranged

    -- and has the part from which on they are
    pub first_fits : first Γ t ≤ count Γ (owner Γ t v)
    first_fits = first_inside t v l o.ranged

    -- the children's types are places' types of the record
    pub kid_placed : (j : ℕ) → first Γ t ≤ j → j < count Γ (owner Γ t v) → Placed Γ (ntypes Γ) (owner Γ t v) j
    kid_placed j p q =
        open_cases (kind Γ t) (h.known t) (openable_not_shut o)
        (λ e.
        let w : Variant Γ t v = h.variants t l e v (o.ranged e) in
        let lu : part Γ t v < ntypes Γ = omega (arith, w.below) in
        rw (owner_enum Γ t v e)
        (placed_wider (h.payload (part Γ t v) lu w.is_variant j (rw (first_enum Γ t v e) at p) (rw (owner_enum Γ t v e) at q)) (omega arith)))
        (λ k.
        let same : owner Γ t v ≡ t = owner_other Γ t v (pointer_not_enum (kind Γ t) k) in
        rw same (subst (Placed Γ (ntypes Γ) t) (omega (arith, h.pointers t l k, ap (count Γ) same)) (h.pointees t l k)))
        (λ k.
        let same : owner Γ t v ≡ t = owner_other Γ t v (fielded_not_enum (kind Γ t) k) in
        rw same (placed_wider (h.fields t l k j (rw same at q)) (omega arith)))

-- LOCAL TYPES

-- what local types are
pub record TypedLocals (Γ locals : List ℕ) : Type 0 where
  pub some : 1 ≤ length locals
  pub few : length locals ≤ 256
  pub below : (l : ℕ) → l < length locals → word locals l < ntypes Γ
  pub no_variant : (l : ℕ) → l < length locals → kind Γ (word locals l) ≢ 8

-- local types that pass
pub locals_typed : (Γ locals : List ℕ) → locals_ok Γ locals ≡ true → TypedLocals Γ locals
unfolding locals_ok local_ok
locals_typed Γ locals e =
    let a : Bool = leb 1 (length locals) in
    let b : Bool = leb (length locals) 256 in
    let c : Bool = all (local_ok Γ locals) (length locals) in
    let ab : a && b ≡ true = and_left (a && b) c e in
    let each : (l : ℕ) → l < length locals → local_ok Γ locals l ≡ true = all_at (local_ok Γ locals) (length locals) (and_right (a && b) c e) in
    record {
      some = leb-true 1 (length locals) (and_left a b ab);
      few = leb-true (length locals) 256 (and_right a b ab);
      below = λ l h. ltb-true (word locals l) (ntypes Γ) (and_left _ (not (eqb (kind Γ (word locals l)) 8)) (each l h));
      no_variant = λ l h. eqb-false (kind Γ (word locals l)) 8 (not-true _ (and_right (ltb (word locals l) (ntypes Γ)) _ (each l h)));
    }
