-- What the tests of kinds and sizes say, and the sizes of records that pass.
use mathlib.Core.Path.{◌≡◌, refl}
use mathlib.Core.Bool.{Bool, true, false, ◌&&◌}
use mathlib.Core.List.{List}
use Prim.Native.Nat.{ℕ, ◌+◌, ◌≤◌, ◌<◌}
use native.Mathlib.Omega.{arith}
use denote.Enum.Bare.{sameb}
use lib.Dec.{eqb, leb}
use lib.ListN.{length}
use borrow.Author.Tests.{le-leb, lt-leb}
use Rattle.model.specs.Types.{types_ok, ntypes, nparts}
use Rattle.model.specs.Merge.{sums_ok, heads, merged}
use Rattle.base.specs.Typed.{types_typed}
use Rattle.type_record.specs.Kinds.{kind_named}
use Rattle.type_record.specs.contracts.kinds.Kind.{the_type}
use Rattle.type_record.specs.declared.kinds.Kind.{Kind}
use Rattle.type_record.specs.declared.kinds.Kind.TheVariants.{Variant}
use Rattle.type_record.specs.Sizes.{Sized}
use Rattle.type_record.proofs.Inside.{ok_counted}
use Rattle.type_record.proofs.KindLaws.{eq_code}
use Rattle.moved.specs.Merged.{heads_long, merged_long}

-- WHAT THE TESTS SAY

-- b: is the kind k a variant's? then the second test decides, else the first
module _ (k j : ℕ) {v : Kind} {b : Bool} (e : v ≡ kind_named k) (f : b ≡ sameb the_type v Variant) where
  pub variant_first : b ≡ true → eqb j 0 ≡ eqb k 8 && eqb j 0
  variant_first d = rw (← eq_code k Variant e f refl, d) refl

  pub no_variant : b ≡ false → b ≡ eqb k 8 && eqb j 0
  no_variant d = rw (← eq_code k Variant e f refl, d) refl

-- too many types; few types, and the test of the parts
module _ (Γ Δ : List ℕ) where
  pub many : {t : ℕ} → t ≡ ntypes Γ + ntypes Δ → 4096 < t → leb t 4096 ≡ sums_ok Γ Δ
  unfolding sums_ok
  many {t} e l = cc (lt-leb t 4096 l)

  pub few : ntypes Γ + ntypes Δ ≤ 4096 → {p : ℕ} → p ≡ nparts Γ + nparts Δ → leb p 16384 ≡ sums_ok Γ Δ
  unfolding sums_ok
  few l e = cc (le-leb (ntypes Γ + ntypes Δ) 4096 l)

-- THE SIZES OF RECORDS THAT PASS, of both heads and of the merged record
pub words_in : (Γ : List ℕ) → types_ok Γ ≡ true → 2 + ntypes Γ + ntypes Γ + nparts Γ ≤ length Γ
words_in Γ t = omega (arith, (types_typed Γ t).long)

pub all_sized : (Γ : List ℕ) → types_ok Γ ≡ true → Sized Γ
all_sized Γ t = (ok_counted Γ t).sized

pub two_words : (Γ : List ℕ) → types_ok Γ ≡ true → 2 ≤ length Γ
two_words Γ t = omega (arith, (types_typed Γ t).long)

pub types_few : (Γ : List ℕ) → types_ok Γ ≡ true → ntypes Γ ≤ 4096
types_few Γ t = (types_typed Γ t).few

pub parts_few : (Γ : List ℕ) → types_ok Γ ≡ true → nparts Γ ≤ 16384
parts_few Γ t = (types_typed Γ t).few_parts

module _ (Γ Δ : List ℕ) (t : types_ok Γ ≡ true) (u : types_ok Δ ≡ true) where
  pub heads_words : length (heads Γ Δ) ≡ ntypes Γ + ntypes Δ + (ntypes Γ + ntypes Δ)
  heads_words = omega (arith, heads_long (types_typed Γ t) (types_typed Δ u))

  pub merged_words : length (merged Γ Δ) ≡ 2 + (ntypes Γ + ntypes Δ) + (ntypes Γ + ntypes Δ) + (nparts Γ + nparts Δ)
  merged_words = omega (arith, merged_long (types_typed Γ t) (types_typed Δ u))
