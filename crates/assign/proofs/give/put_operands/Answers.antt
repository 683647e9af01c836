-- `assign::give::put_operands` meets its contract: the first operands are put, as many as were counted. Assumes nothing.
use Prim.Native.Nat.{◌<◌}
use native.Mathlib.Omega.{arith}
use Rattle.model.specs.Assign.{operands_give}
use Rattle.assign.specs.Kinds.{kind_code}
use Rattle.assign.specs.Words.{operands_at, operands_end}
use Rattle.assign.proofs.Putting.{puts_begun}
use Rattle.assign.proofs.Giving.{pen_here, next_inside, operand_room, operand_put}
use Rattle.assign.proofs.give.put_operands.Goals as goal

pub loop-init : goal.loop-init
unfolding operands_end operands_at operands_give
loop-init c = puts_begun

pub put_operand-q-requires-clause-from_in_bounds : goal.put_operand-q-requires-clause-from_in_bounds
put_operand-q-requires-clause-from_in_bounds c =
    let L = c.loop in
    let a = c.args in
    let l : L.counter < a.k = omega arith in
    rw (pen_here a.list.now (kind_code a.kind) a.flag a.k a.p.from L.counter l L.invariant)
    (next_inside a.list.now (kind_code a.kind) a.flag a.k a.p.from L.counter l c.requires.from_in_bounds)

pub put_operand-q-requires-clause-room : goal.put_operand-q-requires-clause-room
put_operand-q-requires-clause-room c =
    let L = c.loop in
    let a = c.args in
    operand_room a.list.now (kind_code a.kind) a.flag a.k a.p.from L.counter (omega arith) L.invariant c.requires.room

pub loop-preserved : goal.loop-preserved
loop-preserved c =
    let L = c.loop in
    let a = c.args in
    operand_put a.list.now (kind_code a.kind) a.flag a.k a.p.from L.counter (omega arith) L.invariant c.put_operand-q.ensures
