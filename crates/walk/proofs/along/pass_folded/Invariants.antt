-- `walk::along::pass_folded` meets its contract. The loop's invariant: the walk by types goes on from `fresh` as it did from the start. Assumes nothing.
use Rattle.walk.specs.Site.{extent}
use Rattle.walk.proofs.Turns.{Turn}
use Rattle.walk.proofs.along.pass_folded.Given as goal

abbrev pub invariant-loop-at : goal.invariant-loop-at
invariant-loop-at l = Turn l.types.words.now l.ops l.args l.from (extent l.ops l.args) l.typ l.fresh l.at
