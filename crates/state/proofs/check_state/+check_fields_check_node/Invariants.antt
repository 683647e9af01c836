-- The cycle of calls {check_fields, check_node}. The measure is twice what is left of the n words, and one more for `check_fields`.
use Rattle.std.proofs.Common.{◌+◌, ◌-◌, ◌*◌}
use Rattle.state.proofs.check_state.+check_fields_check_node.Given as goal

abbrev pub decreases-check_fields : goal.decreases-check_fields
decreases-check_fields l = 2 * (l.n - l.i) + 1

abbrev pub decreases-check_node : goal.decreases-check_node
decreases-check_node l = 2 * (l.n - l.i)
