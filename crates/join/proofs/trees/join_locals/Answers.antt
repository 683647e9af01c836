-- `join::trees::join_locals` meets its contract: the invariant in each round and at the end.
use Rattle.std.proofs.Common.{refl, arith}
use Rattle.base.specs.Typed.{locals_typed}
use Rattle.join.proofs.Passing.{passed_all, local_first, local_second, passed_full, passed_more}
use Rattle.join.proofs.trees.join_locals.Goals as goal
use Rattle.join.proofs.trees.join_locals.Goals.{then-changed, else-changed}

pub join_node-requires-clause-t_bound : goal.join_node-requires-clause-t_bound
join_node-requires-clause-t_bound c =
    (locals_typed c.args.types.now.words.now c.args.locals.now c.requires.locals_value).below c.loop-t.t-index c.loop-t-test.true

pub join_node-requires-clause-here : goal.join_node-requires-clause-here
join_node-requires-clause-here c = local_first c.loop-t.invariant c.loop-t-test.true

pub join_node-requires-clause-here_2 : goal.join_node-requires-clause-here_2
join_node-requires-clause-here_2 c = local_second c.loop-t.invariant c.loop-t-test.true

pub returns-in_err-a : goal.returns-in_err-a
returns-in_err-a c = rw c.from_residual.ensures (passed_full c.loop-t.invariant c.loop-t-test.true c.in_err-a.ensures)

pub loop-t-preserved : goal.loop-t-preserved
loop-t-preserved c =
    let R = c.loop-t.invariant.room in
    passed_more c.loop-t.invariant c.loop-t-test.true c.in_ok-a.ensures (omega (arith, R.forms)) (omega (arith, R.whats))
    (elim c.if-changed.branch [
      | then-changed w ↦ rw (w.changed-is, w.if-changed.true) refl
      | else-changed w ↦ rw (w.changed-is, w.if-changed.false) refl
    ])

pub returns : goal.returns
returns c = passed_all c.loop-t.invariant (omega arith)
