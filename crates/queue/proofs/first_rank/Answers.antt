-- `queue::first_rank` meets its contract. The loop's invariant: the words before word k are 0. Assumes nothing.
use native.Mathlib.Omega.{arith}
use Rattle.queue.proofs.Bits.{empty_next, empty_here, empty_end}
use Rattle.queue.proofs.first_rank.Goals as goal

pub returns-then-w-ne0 : goal.returns-then-w-ne0
returns-then-w-ne0 c =
    empty_here _ _ c.loop-k.invariant (omega arith) c.zeros.ensures.value (c.zeros.ensures.below c.if-w-ne0.true)

pub loop-k-preserved : goal.loop-k-preserved
loop-k-preserved c = empty_next _ _ c.loop-k.invariant (omega arith) c.if-w-ne0.false

pub returns : goal.returns
returns c = omega (arith, empty_end _ _ c.loop-k.invariant (omega arith))
