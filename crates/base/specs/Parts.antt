-- The parts of a type, and the types of an open node's children: whose parts they are, how many, and each by its number.
use Rattle.std.specs.Prelude.{◌≡◌, ◌≢◌, List, [], ◌∷◌, length, get_or}
use Rattle.std.proofs.Math.Path.{refl, sym, ap}
use Rattle.std.proofs.Common.{◌∙◌, not-suc-le-zero, add-zero, add-suc, suc-add, le_of_suc-le-suc, add-one, sub-one, arith, eq-eqb, ne_eqb}
use Prim.Native.Nat.{ℕ, zero, suc, ◌+◌, ◌-◌, ◌<◌, ◌≤◌}
use Rattle.model.specs.Types.{kind, count, part, parts, owner, first, kids}
use Rattle.base.specs.Each.{Each, each_none, each_more}

module _ (Γ : List ℕ) (u : ℕ) where
  -- no part left
  pub parts_none : (j : ℕ) → parts Γ u j 0 ≡ []
  unfolding parts
  parts_none j = refl

  -- one more part
  pub parts_cons : (j n : ℕ) → 0 < n → parts Γ u j n ≡ part Γ u j ∷ parts Γ u (j + 1) (n - 1)
  unfolding parts
  parts_cons j zero h = absurd (not-suc-le-zero h)
  parts_cons j (suc n) h = rw (add-one, sub-one)

  -- as many as asked for
  pub length_parts : (j n : ℕ) → length (parts Γ u j n) ≡ n
  unfolding parts
  length_parts j zero = refl
  length_parts j (suc n) = ap suc (length_parts (suc j) n)

  -- one of them
  pub parts_at : (j n i : ℕ) → i < n → get_or (parts Γ u j n) i 0 ≡ part Γ u (j + i)
  unfolding parts
  parts_at j zero i h = absurd (not-suc-le-zero h)
  parts_at j (suc n) zero h = ap (part Γ u) (sym (add-zero j))
  parts_at j (suc n) (suc i) h = parts_at (suc j) n i (le_of_suc-le-suc h) ∙ ap (part Γ u) (suc-add j i ∙ sym (add-suc j i))

  -- what holds of each
  pub parts_each : {P : ℕ → Type 0} (j n : ℕ) → ((i : ℕ) → j ≤ i → i < j + n → P (part Γ u i)) → Each P (parts Γ u j n)
  unfolding parts
  parts_each j zero h = each_none
  parts_each j (suc n) h = each_more (h j (omega arith) (omega arith)) (parts_each (suc j) n (λ i a b. h i (omega arith) (omega arith)))

-- the children of an open node of type t at variant v
module _ (Γ : List ℕ) (t v : ℕ) where
  -- an enum's are its variant's parts
  pub owner_enum : kind Γ t ≡ 7 → owner Γ t v ≡ part Γ t v
  unfolding owner
  owner_enum e = rw (eq-eqb (kind Γ t) 7 e)

  -- any other type's are its own
  pub owner_other : kind Γ t ≢ 7 → owner Γ t v ≡ t
  unfolding owner
  owner_other f = rw (ne_eqb (kind Γ t) 7 f)

  -- an enum's begin behind the discriminant
  pub first_enum : kind Γ t ≡ 7 → first Γ t ≡ 1
  unfolding first
  first_enum e = rw (eq-eqb (kind Γ t) 7 e)

  -- any other type's begin at the first
  pub first_other : kind Γ t ≢ 7 → first Γ t ≡ 0
  unfolding first
  first_other f = rw (ne_eqb (kind Γ t) 7 f)

  -- and of any other type's
  pub kids_other : kind Γ t ≢ 7 → kids Γ t v ≡ parts Γ t 0 (count Γ t)
  unfolding kids
  kids_other f = rw (owner_other f, first_other f) (ap (parts Γ t 0) (omega arith))

  -- how many they are
  pub length_kids : length (kids Γ t v) ≡ count Γ (owner Γ t v) - first Γ t
  unfolding kids
  length_kids = length_parts Γ (owner Γ t v) (first Γ t) (count Γ (owner Γ t v) - first Γ t)

  -- the type of one of them
  pub kids_at : (i : ℕ) → i < length (kids Γ t v) → get_or (kids Γ t v) i 0 ≡ part Γ (owner Γ t v) (first Γ t + i)
  unfolding kids
  kids_at i h = parts_at Γ (owner Γ t v) (first Γ t) (count Γ (owner Γ t v) - first Γ t) i (omega (arith, length_kids))
