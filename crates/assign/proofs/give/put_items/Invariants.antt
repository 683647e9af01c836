-- `assign::give::put_items` meets its contract: the first i items are put. Assumes nothing.
use Rattle.assign.specs.Words.{items_at}
use Rattle.assign.specs.Puts.{Puts}
use Rattle.assign.proofs.give.put_items.Given as goal

abbrev pub invariant-loop-i : goal.invariant-loop-i
invariant-loop-i l = Puts l.initial.out l.initial.q l.out l.q l.initial.q.from (items_at l.list l.at l.i)
