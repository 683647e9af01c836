-- `statements::record` meets its contract: its entries are put, and if they fit they are one statement more. Assumes nothing.
use native.Mathlib.Omega.{arith}
use Rattle.statements.proofs.Puts.{puts_then}
use Rattle.statements.proofs.One.{puts_statement, puts_lost}
use Rattle.statements.proofs.record.Goals as goal
use Rattle.statements.proofs.record.Goals.{then-room-c, else-room-c}

pub returns-clause-puts : goal.returns-clause-puts
returns-clause-puts c =
    let P = puts_then (puts_then c.put-a.ensures c.put-b.ensures) c.put_items-c.ensures in
    elim c.if-room-c.branch [
      | then-room-c w ↦ rw w.statements-is (puts_lost c.requires.counted P (omega arith))
      | else-room-c w ↦ rw w.statements-is (puts_statement c.requires.counted P (omega arith) (omega arith))
    ]
