-- A map of type numbers from one type record to another that keeps what a type is: what is asked of the words (`Embeds`), and what trees see
-- of it (`Moves`).
use Rattle.std.specs.Prelude.{◌≡◌, List, ◌∷◌, map, ℕ, zero, suc, ◌+◌, ◌-◌, ◌≤◌, ◌<◌, ltb}
use Rattle.std.proofs.Math.Path.{refl, ap}
use Rattle.std.proofs.Common.{sym, ap₂, ◌∙◌, arith}
use Rattle.std.proofs.Math.Decide.{ℕ_discrete}
use Rattle.model.specs.Types.{ntypes, kind, count, part, parts, owner, first, kids, discriminant}
use Rattle.model.specs.Typing.{Openable}
use Rattle.base.specs.Kinds.{kind_known}
use Rattle.base.specs.Parts.{owner_enum, owner_other, first_enum}
use Rattle.base.specs.Typed.{Typed, Variant, owner_known, first_fits}

-- f leads the types of Γ to types of Δ: kind, variants, children and discriminants of a moved type are those of the type
pub record Moves (f : ℕ → ℕ) (Γ Δ : List ℕ) : Type 0 where
  pub kinds : (t : ℕ) → kind Δ (f t) ≡ kind Γ t
  pub counts : (t : ℕ) → kind Γ t ≡ 7 → count Δ (f t) ≡ count Γ t
  pub children : (t v : ℕ) → Openable Γ t v → kids Δ (f t) v ≡ map f (kids Γ t v)
  pub discriminants : (t v : ℕ) → kind Γ t ≡ 7 → v < count Γ t → discriminant Δ (f t) v ≡ discriminant Γ t v

-- the words: parts that are type numbers are moved, and a discriminant is not; the order stays. Kinds, and whether there is such a type, are
-- asked of every number, so that no law over trees need ask whether a tree's types are the record's
pub record Embeds (f : ℕ → ℕ) (Γ Δ : List ℕ) : Type 0 where
  pub kinds : (t : ℕ) → kind Δ (f t) ≡ kind Γ t
  pub counts : (t : ℕ) → t < ntypes Γ → count Δ (f t) ≡ count Γ t
  pub types : (t j : ℕ) → t < ntypes Γ → j < count Γ t → (kind Γ t ≡ 8 → 1 ≤ j) → part Δ (f t) j ≡ f (part Γ t j)
  pub values : (t : ℕ) → t < ntypes Γ → kind Γ t ≡ 8 → 0 < count Γ t → part Δ (f t) 0 ≡ part Γ t 0
  pub rises : (s t : ℕ) → s < t → t < ntypes Γ → f s < f t
  pub inside : (t : ℕ) → ltb (f t) (ntypes Δ) ≡ ltb t (ntypes Γ)

-- parts that are moved one by one
parts_moved : (Γ Δ : List ℕ) (f : ℕ → ℕ) (u w j n : ℕ) → ((i : ℕ) → j ≤ i → i < j + n → part Δ w i ≡ f (part Γ u i)) → parts Δ w j n ≡ map f (parts Γ u j n)
unfolding parts
parts_moved Γ Δ f u w j zero h = refl
parts_moved Γ Δ f u w j (suc n) h = ap₂ ◌∷◌ (h j (omega arith) (omega arith)) (parts_moved Γ Δ f u w (suc j) n (λ i a b. h i (omega arith) (omega arith)))

module _ {f : ℕ → ℕ} {Γ Δ : List ℕ} (g : Typed Γ) (e : Embeds f Γ Δ) where
  -- the variant v of an enum
  variant_moved : (t v : ℕ) → kind Γ t ≡ 7 → v < count Γ t → part Δ (f t) v ≡ f (part Γ t v)
  variant_moved t v k l = e.types t v (kind_known Γ t (λ z. omega arith)) l (λ z. omega arith)

  -- its discriminant stays
  pub discriminant_moved : (t v : ℕ) → kind Γ t ≡ 7 → v < count Γ t → discriminant Δ (f t) v ≡ discriminant Γ t v
  unfolding discriminant
  discriminant_moved t v k l =
      let m : t < ntypes Γ = kind_known Γ t (λ z. omega arith) in
      let w : Variant Γ t v = g.variants t m k v l in
      let n : part Γ t v < ntypes Γ = omega (arith, w.below) in
      ap (λ (u : ℕ). part Δ u 0) (variant_moved t v k l) ∙ e.values (part Γ t v) n w.is_variant (g.discriminated (part Γ t v) n w.is_variant)

  module _ (t v : ℕ) (o : Openable Γ t v) where
    -- whose parts the children are
    owner_moved : owner Δ (f t) v ≡ f (owner Γ t v)
    owner_moved = elim (ℕ_discrete (kind Γ t) 7) [
      | yes k ↦ owner_enum Δ (f t) v (e.kinds t ∙ k) ∙ variant_moved t v k (o.ranged k) ∙ ap f (sym (owner_enum Γ t v k))
      | no k ↦ owner_other Δ (f t) v (λ z. k (sym (e.kinds t) ∙ z)) ∙ ap f (sym (owner_other Γ t v k))
    ]

    -- and from which on
    first_moved : first Δ (f t) ≡ first Γ t
    unfolding first
    first_moved = rw (e.kinds t) refl

    -- an enum's children stand behind the discriminant
    behind : (i : ℕ) → first Γ t ≤ i → kind Γ (owner Γ t v) ≡ 8 → 1 ≤ i
    behind i l k = elim (ℕ_discrete (kind Γ t) 7) [
      | yes z ↦ omega (arith, first_enum Γ t v z)
      | no z ↦ absurd (o.not_variant (ap (kind Γ) (sym (owner_other Γ t v z)) ∙ k))
    ]

    -- the children, each moved
    pub kids_moved : kids Δ (f t) v ≡ map f (kids Γ t v)
    unfolding kids
    kids_moved =
        let l : owner Γ t v < ntypes Γ = owner_known g t v (kind_known Γ t o.not_opaque) o in
        let m : first Γ t ≤ count Γ (owner Γ t v) = first_fits g t v (kind_known Γ t o.not_opaque) o in
        rw (owner_moved, first_moved, e.counts (owner Γ t v) l)
        (parts_moved Γ Δ f (owner Γ t v) (f (owner Γ t v)) (first Γ t) (count Γ (owner Γ t v) - first Γ t)
        (λ i a b. e.types (owner Γ t v) i l (omega arith) (behind i a)))
