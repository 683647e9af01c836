-- `assign::give::put_operands` meets its contract: the first operands are put, as many as were counted. Assumes nothing.
use Rattle.model.specs.Assign.{operands_give}
use Rattle.assign.specs.Kinds.{kind_code}
use Rattle.assign.specs.Words.{operands_at, operands_end}
use Rattle.assign.specs.Puts.{Puts}
use Rattle.assign.proofs.give.put_operands.Given as goal

abbrev pub invariant-loop : goal.invariant-loop
invariant-loop l =
    Puts l.initial.out l.initial.q l.out l.q (operands_end l.list l.counter l.initial.q.from)
    (operands_give (kind_code l.kind) l.flag (operands_at l.list l.counter l.initial.q.from))
