-- The measures of {unfolds_fields, unfolds_node}: twice what is left of the forms, and one more for the children.
use Rattle.std.proofs.Common.{◌+◌, ◌-◌, ◌*◌, length}
use Rattle.collectors.proofs.unfolds.+unfolds_fields_unfolds_node.Given as goal

abbrev pub decreases-unfolds_fields : goal.decreases-unfolds_fields
decreases-unfolds_fields l = 2 * (length l.forms.now - l.k.second) + 1

abbrev pub decreases-unfolds_node : goal.decreases-unfolds_node
decreases-unfolds_node l = 2 * (length l.forms.now - l.c.second)
