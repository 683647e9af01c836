-- `statements::put_items` meets its contract. The loop's invariant: the first j items are put. Assumes nothing.
use lib.ListN.{take}
use Rattle.model.specs.State.{pairs}
use Rattle.statements.specs.Kept.{Puts}
use Rattle.statements.proofs.put_items.Given as goal

abbrev pub invariant-loop-j : goal.invariant-loop-j
invariant-loop-j l = Puts 0 l.initial.out l.initial.p l.out l.p (pairs (take l.j l.ops) (take l.j l.args))
