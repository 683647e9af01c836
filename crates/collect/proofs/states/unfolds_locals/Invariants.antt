-- `collect::states::unfolds_locals`: what is told of the locals from l on tells the whole.
use Rattle.collectors.specs.Trail.{Long}
use Rattle.collect.proofs.Passing.{Opened}
use Rattle.collect.proofs.states.unfolds_locals.Given as goal

abbrev pub invariant-loop-l : goal.invariant-loop-l
invariant-loop-l l =
    Long l.ops l.args × Opened l.types.words.now l.forms l.whats l.fn.locals l.initial.out l.fn.o l.out l.l l.g
