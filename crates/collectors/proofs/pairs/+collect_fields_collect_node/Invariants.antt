-- The measures of {collect_fields, collect_node}: twice what is left of the first forms, and one more for the children.
use Rattle.std.proofs.Common.{◌+◌, ◌-◌, ◌*◌, length}
use Rattle.collectors.proofs.pairs.+collect_fields_collect_node.Given as goal

abbrev pub decreases-collect_fields : goal.decreases-collect_fields
decreases-collect_fields l = 2 * (length l.f1.now - l.k.first) + 1

abbrev pub decreases-collect_node : goal.decreases-collect_node
decreases-collect_node l = 2 * (length l.f1.now - l.c.first)
