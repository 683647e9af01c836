-- What a type of a record must say to pass refusal 1: the converse of what `types_typed` (Typed) says of each.
use Rattle.std.specs.Prelude.{◌≡◌, ◌≢◌, List, ℕ, ◌+◌, ◌-◌, ◌≤◌, ◌<◌, eqb}
use Rattle.std.proofs.Math.Bool.{true, not}
use Rattle.std.proofs.Common.{arith}
use borrow.Author.Tests.{lt-ltb, le-leb, eq-eqb, ne_eqb}
use Rattle.model.specs.Words.{all}
use Rattle.model.specs.Types.{ntypes, kind, count, part, pointer, fielded, shut, discriminant, field_ok, fields_ok, pointee_ok, variant_ok, variants_ok, type_ok}
use Rattle.base.specs.Tests.{split}
use Rattle.base.specs.Below.{all_of}
use Rattle.base.specs.Kinds.{pointer_cases, fielded_cases, shut_cases, open_cases}
use Rattle.base.specs.Typed.{Placed, Variant}

-- ITS TESTS

module _ (Γ : List ℕ) (t : ℕ) where
  -- a field
  field_passes : (j : ℕ) → Placed Γ t t j → field_ok Γ t j ≡ true
  unfolding field_ok
  field_passes j p = cc (lt-ltb (part Γ t j) t p.below, ne_eqb (kind Γ (part Γ t j)) 8 p.no_variant)

  -- the fields from part k on
  fields_pass : (k : ℕ) → ((j : ℕ) → k ≤ j → j < count Γ t → Placed Γ t t j) → fields_ok Γ t k ≡ true
  unfolding fields_ok
  fields_pass k h = all_of (λ i. field_ok Γ t (k + i)) (count Γ t - k) (λ i l. field_passes (k + i) (h (k + i) (omega arith) (omega arith)))

  -- a pointee
  pointee_passes : count Γ t ≡ 1 → Placed Γ (ntypes Γ) t 0 → pointee_ok Γ t ≡ true
  unfolding pointee_ok
  pointee_passes e p = cc (eq-eqb (count Γ t) 1 e, lt-ltb (part Γ t 0) (ntypes Γ) p.below, ne_eqb (kind Γ (part Γ t 0)) 8 p.no_variant)

  -- a variant, whose value no earlier one has
  variant_passes : (j : ℕ) → Variant Γ t j → ((i : ℕ) → i < j → discriminant Γ t i ≢ discriminant Γ t j) → variant_ok Γ t j ≡ true
  unfolding variant_ok
  variant_passes j w h =
      let fresh : all (λ i. not (eqb (discriminant Γ t i) (discriminant Γ t j))) j ≡ true =
      all_of (λ i. not (eqb (discriminant Γ t i) (discriminant Γ t j))) j (λ i l. cc (ne_eqb (discriminant Γ t i) (discriminant Γ t j) (h i l))) in
      cc (lt-ltb (part Γ t j) t w.below, eq-eqb (kind Γ (part Γ t j)) 8 w.is_variant)

  -- all variants
  variants_pass : ((j : ℕ) → j < count Γ t → variant_ok Γ t j ≡ true) → variants_ok Γ t ≡ true
  unfolding variants_ok
  variants_pass h = all_of (variant_ok Γ t) (count Γ t) h

-- WHAT A TYPE SAYS, by its kind
pub record Says (Γ : List ℕ) (t : ℕ) : Type 0 where
  pub known : kind Γ t ≤ 10
  pub opaque : kind Γ t ≡ 0 → count Γ t ≡ 0
  pub array : kind Γ t ≡ 4 → count Γ t ≡ 0
  pub pointers : pointer (kind Γ t) ≡ true → count Γ t ≡ 1
  pub pointees : pointer (kind Γ t) ≡ true → Placed Γ (ntypes Γ) t 0
  pub fields : fielded (kind Γ t) ≡ true → (j : ℕ) → j < count Γ t → Placed Γ t t j
  pub variants : kind Γ t ≡ 7 → (j : ℕ) → j < count Γ t → Variant Γ t j
  pub differ : kind Γ t ≡ 7 → (i j : ℕ) → i < j → j < count Γ t → discriminant Γ t i ≢ discriminant Γ t j
  pub discriminated : kind Γ t ≡ 8 → 1 ≤ count Γ t
  pub payload : kind Γ t ≡ 8 → (j : ℕ) → 1 ≤ j → j < count Γ t → Placed Γ t t j

-- SO IT PASSES
pub says_passes : {Γ : List ℕ} {t : ℕ} → Says Γ t → type_ok Γ t ≡ true
unfolding type_ok pointer fielded
says_passes {Γ} {t} h = split (shut (kind Γ t))
    (λ s. shut_cases (kind Γ t) s
    (λ k. cc (eq-eqb (count Γ t) 0 (h.opaque k)))
    (λ k. cc (eq-eqb (count Γ t) 0 (h.array k)))
    (λ k. cc (le-leb 1 (count Γ t) (h.discriminated k), fields_pass Γ t 1 (h.payload k))))
    (λ s. open_cases (kind Γ t) h.known s
    (λ k. cc (variants_pass Γ t (λ j m. variant_passes Γ t j (h.variants k j m) (λ i n. h.differ k i j n m))))
    (λ k.
    let p = pointee_passes Γ t (h.pointers k) (h.pointees k) in
    pointer_cases (kind Γ t) k (λ z. cc) (λ z. cc) (λ z. cc))
    (λ k.
    let p = fields_pass Γ t 0 (λ j a m. h.fields k j m) in
    fielded_cases (kind Γ t) k (λ z. cc) (λ z. cc) (λ z. cc) (λ z. cc)))
