-- `arrival::arrive::wait` meets its contract: the block's rank has a bit, and is its own.
use mathlib.Core.Path.{sym}
use native.Mathlib.Omega.{arith}
use Rattle.model.specs.Function.{nblocks, rank}
use Rattle.blocks.proofs.Spots.{formed_accepted}
use Rattle.queue.proofs.Waiting.{facts_ranking}
use Rattle.arrival.proofs.arrive.wait.Goals as goal

pub insert-requires-clause-r_bound : goal.insert-requires-clause-r_bound
insert-requires-clause-r_bound c =
    let R = facts_ranking (formed_accepted c.requires.formed) in omega (arith, c.rank_of.ensures, R.few, R.below _ c.requires.bit_for.0)

pub returns : goal.returns
returns c =
    let f = c.args.fun.now.words.now in
    c.insert.ensures.inserts (rank f) (nblocks f) c.args.c (facts_ranking (formed_accepted c.requires.formed)) c.requires.bit_for.0 (sym c.rank_of.ensures)
