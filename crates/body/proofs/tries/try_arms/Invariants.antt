-- `body::tries::try_arms` meets its contract: the block's exits are what is left to try from item i on.
use mathlib.Core.Path.{◌≡◌}
use lib.ListN.{length}
use Rattle.model.specs.Block.{matched, targets}
use Rattle.model.specs.Body.{exits_of}
use Rattle.state.specs.Given.{InEach}
use Rattle.body.proofs.Plans.{Leads, trying}
use Rattle.body.proofs.tries.try_arms.Given as goal

abbrev pub invariant-loop-i : goal.invariant-loop-i
invariant-loop-i l = (length l.taken ≡ 16384)
    × InEach l.fun.types.words.now l.fun.record.words.now l.s (λ E. Leads l.fun.types.words.now l.fun.record.words.now l.on E (exits_of l.fun.types.words.now l.fun.record.words.now (matched l.fun.record.words.now l.b) (targets l.fun.record.words.now l.b) E) (trying l.fun.types.words.now l.fun.record.words.now l.on E l.i-end l.i l.taken))
