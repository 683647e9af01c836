-- The sizes of a type record, and the offsets of a type record's parts in a lent array.
use Rattle.std.specs.Prelude.{◌≡◌, Bool, true, List, ℕ, ◌+◌, ◌≤◌, ◌<◌, length, get_or}
use Rattle.model.specs.Types.{ntypes, nparts, offset, types_ok, kind, count}

-- a type record as long as its sizes say
pub record Sized (Γ : List ℕ) : Type 0 where
  pub some_types : 1 ≤ ntypes Γ
  pub most_types : ntypes Γ ≤ 4096
  pub most_parts : nparts Γ ≤ 16384
  pub whole : length Γ ≡ 2 + ntypes Γ + ntypes Γ + nparts Γ

-- and its counts add up
pub record Counted (Γ : List ℕ) : Type 0 where
  pub sized : Sized Γ
  pub counts : offset Γ (ntypes Γ) ≡ nparts Γ

-- the offset of each type's parts
pub record Offsets (Γ os : List ℕ) : Type 0 where
  pub enough : ntypes Γ ≤ length os
  pub right : (t : ℕ) → t < ntypes Γ → get_or os t 0 ≡ offset Γ t

-- a type record that passes refusal 1, with its offsets
pub record Ready (Γ os : List ℕ) : Type 0 where
  pub typed : types_ok Γ ≡ true
  pub offsets : Offsets Γ os

-- a check that passes has filled in the offsets
abbrev pub Fills : List ℕ → List ℕ → Bool → Type 0
Fills Γ os r = r ≡ true → Offsets Γ os

-- t is an enum
abbrev pub IsEnum : List ℕ → ℕ → Type 0
IsEnum Γ t = (t < ntypes Γ) × (kind Γ t ≡ 7)

-- if it is one, v is a variant of it
abbrev pub VariantOf : List ℕ → ℕ → ℕ → Type 0
VariantOf Γ t v = kind Γ t ≡ 7 → v < count Γ t
