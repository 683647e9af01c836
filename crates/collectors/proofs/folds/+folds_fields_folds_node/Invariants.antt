-- The measures of {folds_fields, folds_node}: twice what is left of the forms, and one more for the children.
use Rattle.std.proofs.Common.{◌+◌, ◌-◌, ◌*◌, length}
use Rattle.collectors.proofs.folds.+folds_fields_folds_node.Given as goal

abbrev pub decreases-folds_fields : goal.decreases-folds_fields
decreases-folds_fields l = 2 * (length l.forms.now - l.k.first) + 1

abbrev pub decreases-folds_node : goal.decreases-folds_node
decreases-folds_node l = 2 * (length l.forms.now - l.c.first)
