-- `queue::pop` meets its contract: by the first rank, which is a block's or not. Assumes nothing.
use native.Mathlib.Omega.{arith}
use Rattle.queue.proofs.Waiting.{pops_nothing, pops_first}
use Rattle.queue.proofs.pop.Goals as goal

pub returns-then-n-r : goal.returns-then-n-r
returns-then-n-r c =
    let P = pops_nothing c.args.blocks.now c.args.n c.args.waits.now c.requires.four (omega (arith, c.first_rank-r.ensures)) in record { popping = P.popping; words = P.words; block = P.block }

pub returns : goal.returns
returns c =
    let P = pops_first c.args.blocks.now c.args.n c.args.waits.now c.requires.four _ _ c.first_rank-r.ensures (omega arith) c.mask.ensures in record { popping = P.popping; words = P.words; block = P.block }
