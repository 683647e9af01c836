-- `collect::states::folds_locals`: what is told of the locals from l on tells the whole.
use Rattle.std.proofs.Common.{◌+◌, take}
use Rattle.collectors.specs.Trail.{Long}
use Rattle.collect.proofs.Passing.{OwedTo}
use Rattle.collect.proofs.states.folds_locals.Given as goal

abbrev pub invariant-loop-l : goal.invariant-loop-l
invariant-loop-l l =
    Long l.ops l.args × OwedTo l.types.words.now l.forms l.whats l.fn.locals (take (l.a + 1) l.fn.locals) l.initial.out l.fn.o l.i l.out l.l l.g
