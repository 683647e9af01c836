-- The measures of {settle_fields, settle_node}: twice what is left of the forms, and one more for `settle_fields`.
use Rattle.std.proofs.Common.{◌+◌, ◌-◌, ◌*◌, length}
use Rattle.join.proofs.settle.+settle_fields_settle_node.Given as goal

abbrev pub decreases-settle_fields : goal.decreases-settle_fields
decreases-settle_fields l = 2 * (length l.forms.now - l.i) + 1

abbrev pub decreases-settle_node : goal.decreases-settle_node
decreases-settle_node l = 2 * (length l.forms.now - l.i)
