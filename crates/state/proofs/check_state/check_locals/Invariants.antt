-- `state::check_state::check_locals` meets its contract. The loop's invariant: the trees of the locals passed stand up to i, so what is left
-- to find are the others from i on. Assumes nothing.
use Rattle.model.specs.State.{levels}
use Rattle.state.proofs.Finding.{Passed}
use Rattle.state.proofs.check_state.check_locals.Given as goal

abbrev pub invariant-loop-t : goal.invariant-loop-t
invariant-loop-t l = Passed l.types.words.now l.forms l.whats l.n levels l.locals l.t-index l.i
