-- The measures of {join_fields, join_node}: twice what is left of the first tree's forms, and one more for `join_fields`.
use Rattle.std.proofs.Common.{◌+◌, ◌-◌, ◌*◌, length}
use Rattle.join.proofs.trees.+join_fields_join_node.Given as goal

abbrev pub decreases-join_fields : goal.decreases-join_fields
decreases-join_fields l = 2 * (length l.f1.now - l.from.first) + 1

abbrev pub decreases-join_node : goal.decreases-join_node
decreases-join_node l = 2 * (length l.f1.now - l.from.first)
