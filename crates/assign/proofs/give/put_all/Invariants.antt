-- `assign::give::put_all` meets its contract. Assumes nothing.
use Prim.Native.Nat.{◌-◌}
use lib.ListN.{length}
use Rattle.assign.proofs.Along.{Along}
use Rattle.assign.proofs.give.put_all.Given as goal

abbrev pub invariant-loop-q : goal.invariant-loop-q
invariant-loop-q l = Along l.list l.initial.out l.initial.q l.out l.q

abbrev pub decreases-loop-q : goal.decreases-loop-q
decreases-loop-q l = length l.list - l.q.from
