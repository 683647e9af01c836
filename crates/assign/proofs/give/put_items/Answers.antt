-- `assign::give::put_items` meets its contract: the first i items are put. Assumes nothing.
use native.Mathlib.Omega.{arith}
use Rattle.assign.specs.Words.{items_at}
use Rattle.assign.proofs.Elements.{items_length, items_snoc}
use Rattle.assign.proofs.Putting.{puts_begun, puts_more, room_then}
use Rattle.assign.proofs.give.put_items.Goals as goal

pub loop-i-init : goal.loop-i-init
unfolding items_at
loop-i-init c = puts_begun

pub put-q-requires : goal.put-q-requires
put-q-requires c =
    let L = c.loop-i in
    room_then 1 L.invariant c.requires.room (omega (arith, items_length c.args.list.now L.i c.args.at))

pub loop-i-preserved : goal.loop-i-preserved
loop-i-preserved c =
    let L = c.loop-i in
    let a = c.args in
    rw (items_snoc a.list.now L.i a.at) (puts_more L.invariant c.put-q.ensures)
