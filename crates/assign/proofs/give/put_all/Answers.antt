-- `assign::give::put_all` meets its contract. Assumes nothing.
use native.Mathlib.Omega.{arith}
use Rattle.assign.proofs.Putting.{pen_from}
use Rattle.assign.proofs.Along.{along_start, along_end, along_inside, along_far, along_room, along_on}
use Rattle.assign.proofs.give.put_all.Goals as goal

pub loop-q-init : goal.loop-q-init
loop-q-init c = along_start c.requires.list_value c.requires.from_value

pub put_statement-q-requires-clause-room : goal.put_statement-q-requires-clause-room
put_statement-q-requires-clause-room c = along_room c.loop-q.invariant c.loop-q-test.true c.requires.room_all

pub loop-q-smaller : goal.loop-q-smaller
loop-q-smaller c =
    let A = c.loop-q.invariant in
    let f = pen_from c.put_statement-q.ensures in
    omega (arith, along_inside A c.loop-q-test.true, along_far A c.loop-q-test.true, f)

pub loop-q-preserved : goal.loop-q-preserved
loop-q-preserved c =
    along_on c.loop-q.invariant c.loop-q-test.true c.put_statement-q.ensures

pub returns : goal.returns
returns c = along_end c.loop-q.invariant c.loop-q-test.false
