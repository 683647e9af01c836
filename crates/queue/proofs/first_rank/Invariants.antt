-- `queue::first_rank` meets its contract. The loop's invariant: the words before word k are 0. Assumes nothing.
use Rattle.queue.proofs.Bits.{EmptyTo}
use Rattle.queue.proofs.first_rank.Given as goal

abbrev pub invariant-loop-k : goal.invariant-loop-k
invariant-loop-k l = EmptyTo l.waits l.k
