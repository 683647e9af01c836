-- `state::check_state::check_locals` meets its contract. The loop's invariant: the trees of the locals passed stand up to i, so what is left
-- to find are the others from i on. Assumes nothing.
use borrow.Author.Tests.{eqb-true, eqb-false}
use mathlib.Core.Path.{sym}
use mathlib.Core.Bool.{true≢false}
use native.Mathlib.Omega.{arith}
use Rattle.base.specs.Typed.{locals_typed}
use Rattle.state.proofs.Fields.{ready_typed}
use Rattle.state.proofs.Finding.{passed_more, passed_all, passed_short, passed_absent}
use Rattle.state.proofs.check_state.check_locals.Goals as goal

pub check_node-requires-clause-t_bound : goal.check_node-requires-clause-t_bound
check_node-requires-clause-t_bound c =
    (locals_typed c.args.types.now.words.now c.args.locals.now c.requires.locals_value).below c.loop-t.t-index (omega arith)

-- before `returns`: a check that goes deeper than 64 levels is refused here first, at what it would wrongly find
pub loop-t-preserved : goal.loop-t-preserved
loop-t-preserved c = passed_more c.loop-t.invariant (omega arith) (ready_typed c.args.types.now.ready).known c.in-Some.ensures

pub returns-in_default : goal.returns-in_default
returns-in_default c =
    (λ e. absurd (true≢false (sym e)), λ e f. passed_absent c.loop-t.invariant (omega arith) c.in_default.ensures f)

pub returns : goal.returns
returns c =
    let a = c.args in
    let L = c.loop-t in (
      λ e. passed_all L.invariant (omega arith) (eqb-true L.i a.n e),
      λ e f. eqb-false L.i a.n e (sym (passed_short L.invariant (omega arith) f)),
    )
