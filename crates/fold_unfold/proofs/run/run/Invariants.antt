-- What the loop of `fold_unfold::run::run` keeps: a pass stands between two turns, from whatever memory it began with. Its measure: what the
-- arrays leave to do.
use Rattle.arrival.specs.Memory.{Memory}
use Rattle.arrival.specs.Shares.{arrays_in, Remembers}
use Rattle.fold_unfold.specs.Runs.{pass, Starts, fresh}
use Rattle.fold_unfold.proofs.Going.{Stands}
use Rattle.fold_unfold.proofs.Weight.{weight}
use Rattle.fold_unfold.proofs.run.run.Given as goal

abbrev pub invariant-loop-b : goal.invariant-loop-b
invariant-loop-b l = (m : Memory) → Starts l.fun.types.words.now l.fun.record.words.now l.recording m → Remembers l.fun.types.words.now l.fun.record.words.now m (fresh l.fn.memo l.fn.forms l.fn.whats)
    → Stands l.fun.types.words.now l.fun.record.words.now l.recording (fresh l.fn.memo l.fn.forms l.fn.whats) l.fn.out (pass l.fun.types.words.now l.fun.record.words.now l.recording m)
    (arrays_in l.memo l.waits l.forms l.whats) l.out l.o

abbrev pub decreases-loop-b : goal.decreases-loop-b
decreases-loop-b l = weight l.fun.types.words.now l.fun.record.words.now (arrays_in l.memo l.waits l.forms l.whats) l.recording
