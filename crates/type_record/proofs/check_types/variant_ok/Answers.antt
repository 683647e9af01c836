-- `type_record::check_types::variant_ok` meets its contract, by its three tests. Assumes nothing.
use mathlib.Core.Path.{◌≡◌, refl}
use mathlib.Core.Logic.{◌≢◌}
use mathlib.Core.Bool.{Bool, false}
use mathlib.Core.List.{List}
use Prim.Native.Nat.{ℕ, ◌≤◌, ◌<◌}
use native.Mathlib.Omega.{arith}
use borrow.Author.Tests.{ne_eqb, lt-ltb, le-ltb}
use Rattle.base.specs.Typed.{Variant}
use Rattle.model.specs.Types.{kind, part, variant_ok}
use Rattle.type_record.specs.Fresh.{value_fresh}
use Rattle.type_record.specs.declared.kinds.Kind.TheVariants as kinds
use Rattle.type_record.proofs.KindLaws.{eq_true, eq_false}
use Rattle.type_record.proofs.check_types.variant_ok.Goals as goal

module _ (Γ : List ℕ) (t j u : ℕ) (e : u ≡ part Γ t j) where
  late : t ≤ u → false ≡ variant_ok Γ t j
  unfolding variant_ok
  late h = cc (le-ltb u t h)

  module _ (h : u < t) where
    other : {b : Bool} → b ≡ false → kind Γ u ≢ 8 → b ≡ variant_ok Γ t j
    unfolding variant_ok
    other d g = cc (lt-ltb u t h, ne_eqb (kind Γ u) 8 g)

    module _ (g : kind Γ u ≡ 8) where
      variant : Variant Γ t j
      variant = record { below = rw (← e) h; is_variant = rw (← e) g }

      fresh : (b : Bool) → b ≡ value_fresh Γ t j → b ≡ variant_ok Γ t j
      unfolding variant_ok value_fresh
      fresh b i = cc (lt-ltb u t h)

pub returns-then-t-variant : goal.returns-then-t-variant
returns-then-t-variant c = late _ _ _ _ c.part_at-variant.ensures (omega arith)

pub value_fresh-requires-clause-variant : goal.value_fresh-requires-clause-variant
value_fresh-requires-clause-variant c =
    variant _ _ _ _ c.part_at-variant.ensures (omega arith) (eq_true _ kinds.Variant c.kind_at.ensures c.eq.ensures c.if-eq.true refl)

pub returns-then-eq : goal.returns-then-eq
returns-then-eq c =
    fresh _ _ _ _ c.part_at-variant.ensures (omega arith) (eq_true _ kinds.Variant c.kind_at.ensures c.eq.ensures c.if-eq.true refl) _ c.value_fresh.ensures

pub returns-else-eq : goal.returns-else-eq
returns-else-eq c =
    other _ _ _ _ c.part_at-variant.ensures (omega arith) c.if-eq.false (eq_false _ kinds.Variant c.kind_at.ensures c.eq.ensures c.if-eq.false refl)
