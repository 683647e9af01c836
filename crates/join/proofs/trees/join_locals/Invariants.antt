-- `join::trees::join_locals`: the join of the locals that are left tells the whole.
use Rattle.join.specs.Ends.{arrays, ended}
use Rattle.join.proofs.Passing.{Passed}
use Rattle.join.proofs.trees.join_locals.Given as goal

abbrev pub invariant-loop-t : goal.invariant-loop-t
invariant-loop-t l =
    Passed l.types.words.now l.locals (arrays l.f1 l.w1) (arrays l.f2 l.w2) (arrays l.initial.of l.initial.ow) (arrays l.of l.ow) l.t-index (ended l.to l.changed)
