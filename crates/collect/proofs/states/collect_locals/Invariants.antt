-- `collect::states::collect_locals`: what is told of the locals from l on tells the whole.
use Rattle.collectors.specs.Trail.{Long}
use Rattle.collect.proofs.Passing.{Led}
use Rattle.collect.proofs.states.collect_locals.Given as goal

abbrev pub invariant-loop-l : goal.invariant-loop-l
invariant-loop-l l =
    Long l.ops l.args × Led l.types.words.now l.f1 l.w1 l.f2 l.w2 l.fn.locals l.initial.out l.fn.o l.out l.l l.g
