-- `whole_crate::each` meets its contract: the functions before the k-th are accepted, and the others are next.
use lib.ListN.{length}
use Rattle.model.specs.Words.{word}
use Rattle.whole_crate.proofs.Going.{Going}
use Rattle.whole_crate.proofs.each.Given as goal

abbrev pub invariant-loop-k : goal.invariant-loop-k
invariant-loop-k l = Going l.types.words.now l.words (length l.fn.forms) (length l.fn.whats) (length l.fn.out) (word l.words 0) l.forms l.whats l.out l.at l.used l.k
