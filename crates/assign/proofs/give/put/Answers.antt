-- `assign::give::put` meets its contract: the item is written, or only counted. Assumes nothing.
use mathlib.Core.Path.{refl}
use Rattle.assign.proofs.Putting.{puts_counted, puts_written}
use Rattle.assign.proofs.give.put.Goals as goal
use Rattle.assign.proofs.give.put.Goals.{in-Some, in_default}

pub returns : goal.returns
returns c =
    elim c.match-p.branch [
      | in-Some w ↦ rw w.out-is (puts_written _ _ refl w.in-Some.is)
      | in_default w ↦ rw w.out-is (puts_counted _ refl w.in_default.is)
    ]
