-- `assign::give::put_action` meets its contract. Assumes nothing.
use Rattle.assign.proofs.Putting.{ending_deref}
use Rattle.assign.proofs.give.put_action.Goals as goal

pub returns-then-deref : goal.returns-then-deref
returns-then-deref c =
    ending_deref c.if-deref.true c.put-q.ensures c.put.ensures
