-- The measures of {basic_block, goto, terminator}: three times the blocks that the way has not entered, one more for `terminator` and two
-- for `basic_block`; and what the loop of `terminator` keeps.
use mathlib.Core.Path.{◌≡◌}
use Prim.Native.Nat.{◌+◌, ◌*◌}
use lib.ListN.{length}
use Rattle.arrival.specs.Shares.{arrays_in}
use Rattle.visit.proofs.Leaving.{Onward}
use Rattle.visit.proofs.block.+basic_block_goto_terminator.Given as goal

-- of a block that is entered
abbrev pub decreases-basic_block : goal.decreases-basic_block
decreases-basic_block l = 3 * l.w.left + 2

-- of a jump
abbrev pub decreases-goto : goal.decreases-goto
decreases-goto l = 3 * l.j.left

-- of a block that is left
abbrev pub decreases-terminator : goal.decreases-terminator
decreases-terminator l = 3 * l.w.left + 1

-- the way left, from whatever memory the arrays and the buffer had
abbrev pub invariant-terminator-loop-i : goal.invariant-terminator-loop-i
invariant-terminator-loop-i l =
    Onward l.fun.types.words.now l.fun.record.words.now l.initial.q.recording l.w.left l.w.block l.s l.p
    (arrays_in l.initial.memo l.initial.waits l.initial.forms l.initial.whats) l.initial.out l.initial.q (arrays_in l.memo l.waits l.forms l.whats) l.out l.q l.i
    × (length l.memo ≡ length l.initial.memo)
