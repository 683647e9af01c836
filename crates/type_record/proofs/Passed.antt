-- What the parts of refusal 1 that have passed say to those that come after. Assumes nothing.
use mathlib.Core.Path.{◌≡◌}
use mathlib.Core.Bool.{Bool, true, ◌&&◌}
use mathlib.Core.List.{List}
use Prim.Native.Nat.{ℕ, ◌+◌, ◌<◌}
use native.Mathlib.Omega.{arith}
use lib.Dec.{eqb, ltb, leb}
use lib.ListN.{length}
use borrow.Author.Tests.{ltb-true, leb-true, eqb-true}
use Rattle.model.specs.Words.{all}
use Rattle.model.specs.Types.{ntypes, nparts, kind, count, offset, part, pointer, fielded, type_sizes, counts_add, fields_ok, variant_ok, type_ok}
use Rattle.base.specs.Tests.{and_left, and_right}
use Rattle.base.specs.Below.{all_at}
use Rattle.type_record.specs.Sizes.{Sized, Counted}

-- the sizes pass
pub sizes_sized : (Γ : List ℕ) → type_sizes Γ ≡ true → Sized Γ
unfolding type_sizes
sizes_sized Γ e =
    let a : Bool = leb 1 (ntypes Γ) in
    let b : Bool = leb (ntypes Γ) 4096 in
    let c : Bool = leb (nparts Γ) 16384 in
    let d : Bool = eqb (length Γ) (2 + ntypes Γ + ntypes Γ + nparts Γ) in
    let abc : a && b && c ≡ true = and_left (a && b && c) d e in
    let ab : a && b ≡ true = and_left (a && b) c abc in
    record {
      some_types = leb-true 1 (ntypes Γ) (and_left a b ab);
      most_types = leb-true (ntypes Γ) 4096 (and_right a b ab);
      most_parts = leb-true (nparts Γ) 16384 (and_right (a && b) c abc);
      whole = eqb-true (length Γ) _ (and_right (a && b && c) d e);
    }

-- the counts add up too
pub counts_counted : (Γ : List ℕ) → Sized Γ → counts_add Γ ≡ true → Counted Γ
unfolding counts_add
counts_counted Γ h e = record { sized = h; counts = eqb-true (offset Γ (ntypes Γ)) (nparts Γ) e }

-- a variant among the types that have passed has a discriminant
pub variant_room : (Γ : List ℕ) (t u : ℕ) → all (type_ok Γ) t ≡ true → t < ntypes Γ → (u < t) × (kind Γ u ≡ 8) → (u < ntypes Γ) × (0 < count Γ u)
unfolding type_ok pointer fielded
variant_room Γ t u e l v =
    let ok : type_ok Γ u ≡ true = all_at (type_ok Γ) t e u v.0 in
    let k : kind Γ u ≡ 8 = v.1 in
    let both : leb 1 (count Γ u) && fields_ok Γ u 1 ≡ true = cc in
    (omega arith, leb-true 1 (count Γ u) (and_left (leb 1 (count Γ u)) (fields_ok Γ u 1) both))

-- a part of an enum that has passed is a variant below it
pub variant_below : (Γ : List ℕ) (t j i : ℕ) → all (variant_ok Γ t) j ≡ true → i < j → (part Γ t i < t) × (kind Γ (part Γ t i) ≡ 8)
unfolding variant_ok
variant_below Γ t j i e l =
    let a : Bool = ltb (part Γ t i) t in
    let b : Bool = eqb (kind Γ (part Γ t i)) 8 in
    let ab : a && b ≡ true = and_left (a && b) _ (all_at (variant_ok Γ t) j e i l) in
    (ltb-true (part Γ t i) t (and_left a b ab), eqb-true (kind Γ (part Γ t i)) 8 (and_right a b ab))
