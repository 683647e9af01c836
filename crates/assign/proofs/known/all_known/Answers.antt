-- `assign::known::all_known` meets its contract. Assumes nothing.
use mathlib.Core.Path.{refl}
use native.Mathlib.Omega.{arith}
use Rattle.assign.proofs.Knowing.{knowing_start, knowing_end, knowing_four, knowing_inside, knowing_far, knowing_stop, knowing_on}
use Rattle.assign.proofs.known.all_known.Goals as goal

pub loop-at-init : goal.loop-at-init
loop-at-init c = knowing_start _ c.requires

pub bounds-list-at-in-loop-at : goal.bounds-list-at-in-loop-at
bounds-list-at-in-loop-at c = omega (arith, knowing_four c.loop-at.invariant c.loop-at-test.true)

pub bounds-list-at-in-loop-at-2 : goal.bounds-list-at-in-loop-at-2
bounds-list-at-in-loop-at-2 c = omega (arith, knowing_four c.loop-at.invariant c.loop-at-test.true)

pub bounds-list-at-in-loop-at-3 : goal.bounds-list-at-in-loop-at-3
bounds-list-at-in-loop-at-3 c = omega (arith, knowing_four c.loop-at.invariant c.loop-at-test.true)

pub returns-then-not-words_known : goal.returns-then-not-words_known
returns-then-not-words_known c =
    knowing_stop c.loop-at.invariant c.loop-at-test.true refl c.operands_end-last.ensures (rw c.from-kind.ensures at c.words_known.ensures) c.if-not-words_known.true

pub loop-at-smaller : goal.loop-at-smaller
loop-at-smaller c = omega (arith, knowing_inside c.loop-at.invariant c.loop-at-test.true refl c.operands_end-last.ensures, knowing_far c.loop-at.invariant c.loop-at-test.true refl c.operands_end-last.ensures)

pub loop-at-preserved : goal.loop-at-preserved
loop-at-preserved c =
    knowing_on c.loop-at.invariant c.loop-at-test.true refl c.operands_end-last.ensures (rw c.from-kind.ensures at c.words_known.ensures) c.if-not-words_known.false

pub returns : goal.returns
returns c = knowing_end c.loop-at.invariant (omega arith)
