-- `type_record::check_types::check_types` meets its contract: the three parts of refusal 1, in order. Assumes nothing.
use mathlib.Core.Path.{◌≡◌, sym, ◌∙◌, ap}
use mathlib.Core.Bool.{Bool, true, false, not}
use mathlib.Core.List.{List}
use Prim.Native.Nat.{ℕ}
use borrow.Author.Tests.{not-true, not-false}
use Rattle.model.specs.Types.{type_sizes, counts_add, all_types_ok, types_ok}
use Rattle.type_record.specs.Sizes.{Sized, Counted}
use Rattle.type_record.proofs.Passed.{sizes_sized, counts_counted}
use Rattle.type_record.proofs.check_types.check_types.Goals as goal

-- a, b: what the first two parts answered
module _ (Γ : List ℕ) {a : Bool} (e : a ≡ type_sizes Γ) where
  no_sizes : not a ≡ true → false ≡ types_ok Γ
  unfolding types_ok
  no_sizes h = cc (not-true a h)

  module _ (h : not a ≡ false) where
    sized : Sized Γ
    sized = sizes_sized Γ (sym e ∙ not-false a h)

    module _ {b : Bool} (f : b ≡ counts_add Γ) where
      no_counts : b ≡ false → b ≡ types_ok Γ
      unfolding types_ok
      no_counts g = cc (not-false a h)

      module _ (g : b ≡ true) where
        counted : Counted Γ
        counted = counts_counted Γ sized (sym f ∙ g)

        decides : {d : Bool} → d ≡ all_types_ok Γ → d ≡ types_ok Γ
        unfolding types_ok
        decides i = cc (not-false a h)

pub returns-then-not-type_sizes-clause-answer : goal.returns-then-not-type_sizes-clause-answer
returns-then-not-type_sizes-clause-answer c = no_sizes _ c.type_sizes.ensures (ap not c.if-not-type_sizes.true)

pub fill_offsets-requires-clause-sized : goal.fill_offsets-requires-clause-sized
fill_offsets-requires-clause-sized c = sized _ c.type_sizes.ensures (ap not c.if-not-type_sizes.false)

pub invariant_of-all_types_ok-clause-counted : goal.invariant_of-all_types_ok-clause-counted
invariant_of-all_types_ok-clause-counted c =
    counted _ c.type_sizes.ensures (ap not c.if-not-type_sizes.false) c.fill_offsets.ensures.counts c.if-fill_offsets.true

pub returns-then-fill_offsets-clause-answer : goal.returns-then-fill_offsets-clause-answer
returns-then-fill_offsets-clause-answer c =
    decides _ c.type_sizes.ensures (ap not c.if-not-type_sizes.false) c.fill_offsets.ensures.counts c.if-fill_offsets.true c.all_types_ok.ensures

pub returns-else-fill_offsets-clause-answer : goal.returns-else-fill_offsets-clause-answer
returns-else-fill_offsets-clause-answer c =
    no_counts _ c.type_sizes.ensures (ap not c.if-not-type_sizes.false) c.fill_offsets.ensures.counts c.if-fill_offsets.false
