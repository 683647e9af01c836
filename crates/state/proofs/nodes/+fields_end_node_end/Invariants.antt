-- The cycle of calls {fields_end, node_end}. The measure is twice what is left of the forms, and one more for `fields_end`.
-- The loop's invariant: the trees in a row are passed one by one (`Skipping`).
use Rattle.std.proofs.Common.{◌+◌, ◌-◌, ◌*◌, ◌≤◌, length}
use Rattle.model.specs.Types.{parts}
use Rattle.model.specs.Tree.{Forest}
use Rattle.records.specs.Here.{CodedAll}
use Rattle.state.proofs.Skipping.{Passed}
use Rattle.state.proofs.nodes.+fields_end_node_end.Given as goal

abbrev pub decreases-fields_end : goal.decreases-fields_end
decreases-fields_end l = 2 * (length l.forms.now - l.i) + 1

abbrev pub decreases-node_end : goal.decreases-node_end
decreases-node_end l = 2 * (length l.forms.now - l.i)

abbrev pub invariant-fields_end-loop-k : goal.invariant-fields_end-loop-k
invariant-fields_end-loop-k l =
    (l.i ≤ l.e) × ((xs : Forest) → CodedAll l.types.words.now l.forms l.whats l.i (parts l.types.words.now l.u l.j l.n) xs → Passed l.types.words.now l.forms l.whats l.i l.u l.j l.n xs l.e l.k)
