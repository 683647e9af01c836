-- `blocks::matching::switch_of` meets its contract: the block's first switch is the first from i on. Assumes nothing.
use mathlib.Core.Path.{◌≡◌, sym, ap, ◌∙◌}
use mathlib.Core.Bool.{Bool}
use mathlib.Core.List.{List}
use mathlib.Core.Option.{none, some}
use Prim.Native.Nat.{ℕ, suc, ◌+◌, ◌-◌, ◌≤◌, ◌<◌}
use native.Mathlib.Numerals.{add-one}
use native.Mathlib.Omega.{arith}
use borrow.Author.Tests.{eq-eqb, ne_eqb}
use lib.Dec.{eqb}
use Rattle.model.specs.Words.{collect_from}
use Rattle.model.specs.Function.{start, stop, op}
use Rattle.base.specs.Collected.{collect_zero, collect_pass, collect_fail}
use Rattle.blocks.specs.Points.{switch_item}
use Rattle.blocks.proofs.Spots.{block_stop}
use Rattle.blocks.proofs.Points.{first}
use Rattle.blocks.proofs.matching.switch_of.Invariants.{switch_from}
use Rattle.blocks.proofs.matching.switch_of.Goals as goal

from_start : (fn : List ℕ) (b t i : ℕ) → t ≡ stop fn b → i ≡ start fn b → switch_item fn b ≡ switch_from fn t i
unfolding switch_item
from_start fn b t i e f = rw (e, f)

module _ (fn : List ℕ) (t i : ℕ) where
  abbrev is_switch : ℕ → Bool
  is_switch x = eqb (op fn x) 8

  abbrev left : ℕ → List ℕ
  left n = collect_from is_switch (λ x. x) n i

  none_left : t ≤ i → switch_from fn t i ≡ none
  none_left l = let z : t - i ≡ 0 = omega arith in ap first (ap left z ∙ collect_zero is_switch (λ x. x) i)

  module _ (l : i < t) where
    further : t - i ≡ suc (t - suc i)
    further = omega arith

    switch_here : op fn i ≡ 8 → switch_from fn t i ≡ some i
    switch_here e = ap first (ap left further ∙ collect_pass is_switch (λ x. x) (t - suc i) i (eq-eqb (op fn i) 8 e))

    switch_later : (op fn i ≡ 8 → ⊥) → switch_from fn t i ≡ switch_from fn t (i + 1)
    switch_later d = rw add-one (ap first (ap left further ∙ collect_fail is_switch (λ x. x) (t - suc i) i (ne_eqb (op fn i) 8 d)))

pub loop-i-init : goal.loop-i-init
loop-i-init c = from_start _ _ _ _ c.stop_of-i-end.ensures c.start_of-i.ensures

pub op_of-requires : goal.op_of-requires
op_of-requires c = record { i_bound = omega (arith, block_stop c.requires.formed c.requires.b_bound) }

pub returns-then-op_of-eq-SWITCH : goal.returns-then-op_of-eq-SWITCH
returns-then-op_of-eq-SWITCH c =
    sym (c.loop-i.invariant ∙ switch_here _ _ _ (omega arith) (sym c.op_of.ensures ∙ c.if-op_of-eq-SWITCH.true))

pub loop-i-preserved : goal.loop-i-preserved
loop-i-preserved c =
    c.loop-i.invariant ∙ switch_later _ _ _ (omega arith) (λ z. c.if-op_of-eq-SWITCH.false (c.op_of.ensures ∙ z))

pub returns : goal.returns
returns c = sym (c.loop-i.invariant ∙ none_left _ _ _ (omega arith))
