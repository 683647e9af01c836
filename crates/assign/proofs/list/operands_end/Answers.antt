-- `assign::list::operands_end` meets its contract: k operands end where those that are left do. Assumes nothing.
use mathlib.Core.Path.{sym, ◌∙◌}
use Prim.Native.Nat.{◌+◌, ◌*◌, ◌-◌, ◌≤◌}
use native.Mathlib.Omega.{arith}
use lib.ListN.{length}
use Rattle.model.specs.Words.{word}
use Rattle.assign.proofs.Checking.{ends_next, ends_first, ends_none}
use Rattle.assign.proofs.list.operands_end.Goals as goal
use Rattle.assign.proofs.list.operands_end.Goals.{In-loop}

-- the operand lies inside the list
inside : (c : In-loop) → c.loop.a + (1 + 2 * word c.args.list.now c.loop.a) ≤ length c.args.list.now
inside c =
    let k = c.args.k in
    omega (arith, ends_first c.args.list.now c.loop.a (k - c.loop.counter) (k - (c.loop.counter + 1)) (omega arith), c.loop.invariant, c.requires)

pub offset_bounds-list-a : goal.offset_bounds-list-a
offset_bounds-list-a c = omega (arith, inside (goal.at.offset_bounds-list-a c).In-loop)

pub bounds-list-a : goal.bounds-list-a
bounds-list-a c = omega (arith, inside (goal.at.bounds-list-a c).In-loop)

pub overflow_add-a-in-loop : goal.overflow_add-a-in-loop
overflow_add-a-in-loop c = omega (arith, inside (goal.at.overflow_add-a-in-loop c).In-loop)

pub loop-preserved : goal.loop-preserved
loop-preserved c =
    let L = c.loop in
    let k = c.args.k in
    L.invariant ∙ ends_next c.args.list.now L.a (k - L.counter) (k - (L.counter + 1)) (omega arith)

pub returns : goal.returns
returns c =
    let L = c.loop in
    ends_none _ L.a (c.args.k - L.counter) (omega arith) ∙ sym L.invariant
