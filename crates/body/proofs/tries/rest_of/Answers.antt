-- `body::tries::rest_of` meets its contract: the variants before v that are not taken are counted.
use mathlib.Core.Path.{◌≡◌}
use mathlib.Core.Bool.{true}
use mathlib.Core.List.{List}
use Prim.Native.Nat.{ℕ, ◌≤◌, ◌<◌}
use native.Mathlib.Omega.{arith}
use Rattle.model.specs.Types.{ntypes, types_ok, count}
use Rattle.base.specs.Typed.{types_typed}
use Rattle.mir.proofs.Sizes.{types_sized}
use Rattle.body.proofs.Variants.{counts_first, counts_left, counts_taken, counts_all, count_few}
use Rattle.body.proofs.tries.rest_of.Goals as goal
use Rattle.body.proofs.tries.rest_of.Goals.{then-taken-v-eq0, else-taken-v-eq0}

-- the count is as long as the array at the most
few : (Γ : List ℕ) (t : ℕ) {n : ℕ} → types_ok Γ ≡ true → t < ntypes Γ → n ≡ count Γ t → n ≤ 16384
few Γ t o l e = omega (arith, e, count_few (types_typed Γ o) l)

pub count_of-v-end-requires-clause-sized : goal.count_of-v-end-requires-clause-sized
count_of-v-end-requires-clause-sized c = types_sized _ c.requires.types_value

pub loop-v-init : goal.loop-v-init
loop-v-init c = (omega arith, counts_first _ _ _)

pub bounds-taken-v : goal.bounds-taken-v
bounds-taken-v c = omega (arith, few _ _ c.requires.types_value c.requires.t_bound c.count_of-v-end.ensures)

pub overflow_cast-other : goal.overflow_cast-other
overflow_cast-other c = omega (arith, few _ _ c.requires.types_value c.requires.t_bound c.count_of-v-end.ensures)

pub loop-v-preserved : goal.loop-v-preserved
loop-v-preserved c =
    let L = c.loop-v in
    elim c.if-taken-v-eq0.branch [
      | then-taken-v-eq0 w ↦ (
        omega (arith, w.left-is),
        rw (w.left-is, w.other-is) (counts_left _ _ _ L.v L.invariant.1 w.if-taken-v-eq0.true),
      )
      | else-taken-v-eq0 w ↦ (omega (arith, w.left-is), rw (w.left-is, w.other-is) (counts_taken _ _ _ L.v L.invariant.1 w.if-taken-v-eq0.false))
    ]

pub returns : goal.returns
returns c =
    let L = c.loop-v in
    record { is = counts_all _ _ _ L.v L.invariant.1 (omega (arith, c.count_of-v-end.ensures)) }
