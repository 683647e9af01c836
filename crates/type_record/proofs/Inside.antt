-- What the sizes and the counts of a type record say of the words that code reads. Assumes nothing.
use mathlib.Core.Path.{◌≡◌}
use mathlib.Core.Bool.{true}
use mathlib.Core.List.{List}
use Prim.Native.Nat.{ℕ, ◌+◌, ◌-◌, ◌≤◌, ◌<◌}
use native.Mathlib.Omega.{arith}
use native.Mathlib.Decide.{ℕ_discrete}
use lib.ListN.{length, get_or}
use borrow.Author.Tests.{lt-ltb}
use Rattle.model.specs.Words.{word}
use Rattle.model.specs.Types.{ntypes, kind, count, offset, part, owner, first, kids, types_ok}
use Rattle.base.specs.Below.{sum_room}
use Rattle.base.specs.Parts.{owner_enum, owner_other, first_enum, first_other, length_parts, parts_at}
use Rattle.base.specs.Typed.{types_typed}
use Rattle.type_record.specs.Sizes.{Counted}

-- the kind of a type of the record is its word
pub kind_word : (Γ : List ℕ) (t : ℕ) → t < ntypes Γ → word Γ (2 + t) ≡ kind Γ t
unfolding kind
kind_word Γ t l = rw (lt-ltb t (ntypes Γ) l)

-- the parts of a type lie inside the record
pub part_inside : {Γ : List ℕ} → Counted Γ → (t j : ℕ) → t < ntypes Γ → j < count Γ t → 2 + ntypes Γ + ntypes Γ + offset Γ t + j < length Γ
unfolding offset
part_inside {Γ} h t j l m = omega (arith, sum_room (count Γ) t (ntypes Γ) l, h.counts)

-- how many children there are
pub kids_length : (Γ : List ℕ) (t v : ℕ) → length (kids Γ t v) ≡ count Γ (owner Γ t v) - first Γ t
unfolding kids
kids_length Γ t v = length_parts Γ (owner Γ t v) (first Γ t) (count Γ (owner Γ t v) - first Γ t)

-- the type of each
pub kids_at : (Γ : List ℕ) (t v i : ℕ) → i < length (kids Γ t v) → get_or (kids Γ t v) i 0 ≡ part Γ (owner Γ t v) (first Γ t + i)
unfolding kids
kids_at Γ t v i l = parts_at Γ (owner Γ t v) (first Γ t) (count Γ (owner Γ t v) - first Γ t) i (rw (kids_length Γ t v) at l)

module _ (Γ : List ℕ) (e : types_ok Γ ≡ true) where
  -- a record that passes has its sizes, and its counts add up
  pub ok_counted : Counted Γ
  ok_counted =
      let h = types_typed Γ e in
      record { sized = record { some_types = h.some; most_types = h.few; most_parts = h.few_parts; whole = h.long }; counts = h.added }

  module _ (t v : ℕ) (l : t < ntypes Γ) (r : kind Γ t ≡ 7 → v < count Γ t) where
    -- whose parts the children are is a type of the record
    pub owner_inside : owner Γ t v < ntypes Γ
    owner_inside =
        elim (ℕ_discrete (kind Γ t) 7) [
          | yes k ↦ rw (owner_enum Γ t v k) (omega (arith, ((types_typed Γ e).variants t l k v (r k)).below))
          | no f ↦ rw (owner_other Γ t v f) l
        ]

    -- and has the part from which on they are
    pub first_inside : first Γ t ≤ count Γ (owner Γ t v)
    first_inside =
        elim (ℕ_discrete (kind Γ t) 7) [
          | yes k ↦
              let h = types_typed Γ e in
              let w = h.variants t l k v (r k) in
              rw (first_enum Γ t v k, owner_enum Γ t v k) (h.discriminated (part Γ t v) (omega (arith, w.below)) w.is_variant)
          | no f ↦ rw (first_other Γ t v f) (omega arith)
        ]
