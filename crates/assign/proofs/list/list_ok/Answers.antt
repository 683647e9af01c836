-- `assign::list::list_ok` meets its contract: what is left of the list decides. Assumes nothing.
use mathlib.Core.Path.{refl}
use native.Mathlib.Omega.{arith}
use Rattle.assign.proofs.Checking.{going_start, going_end, going_short, going_bad, going_room, going_on}
use Rattle.assign.proofs.list.list_ok.Goals as goal

pub loop-at-init : goal.loop-at-init
loop-at-init c = going_start _

pub returns-then-n-at-lt4 : goal.returns-then-n-at-lt4
returns-then-n-at-lt4 c = going_short c.loop-at.invariant c.loop-at-test.true c.if-n-at-lt4.true

pub returns-in_default : goal.returns-in_default
returns-in_default c = going_bad c.loop-at.invariant c.loop-at-test.true c.if-n-at-lt4.false refl c.in_default.ensures

pub overflow_sub-words : goal.overflow_sub-words
overflow_sub-words c =
    omega (arith, going_room c.loop-at.invariant c.loop-at-test.true c.if-n-at-lt4.false refl c.in-Some.ensures)

pub overflow_sub-words-in-loop-at : goal.overflow_sub-words-in-loop-at
overflow_sub-words-in-loop-at c =
    omega (arith, going_room c.loop-at.invariant c.loop-at-test.true c.if-n-at-lt4.false refl c.in-Some.ensures)

pub loop-at-smaller : goal.loop-at-smaller
loop-at-smaller c =
    omega (arith, going_room c.loop-at.invariant c.loop-at-test.true c.if-n-at-lt4.false refl c.in-Some.ensures)

pub loop-at-preserved : goal.loop-at-preserved
loop-at-preserved c =
    going_on c.loop-at.invariant c.loop-at-test.true c.if-n-at-lt4.false refl c.in-Some.ensures

pub returns : goal.returns
returns c = going_end c.loop-at.invariant (omega arith)
