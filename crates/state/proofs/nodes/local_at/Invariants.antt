-- `state::nodes::local_at` meets its contract. The loop's invariant: i is behind the trees of the locals passed, whichever trees stand there.
-- Assumes nothing.
use mathlib.Core.Path.{◌≡◌}
use Rattle.model.specs.Tree.{Forest, sizes}
use Rattle.model.specs.Collect.{firsts}
use Rattle.records.specs.Here.{CodedAll}
use Rattle.state.proofs.nodes.local_at.Given as goal

abbrev pub invariant-loop-t : goal.invariant-loop-t
invariant-loop-t l = (E : Forest) → CodedAll l.types.words.now l.forms l.whats 0 l.fn.locals E → l.i ≡ sizes (firsts l.t-index E)
