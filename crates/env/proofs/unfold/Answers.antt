-- `env::unfold` meets its contract: a test stops it, or it is done. Assumes nothing.
use lib.ListN.{length}
use Rattle.model.specs.Place.{Unfold, unfold_ok}
use Rattle.model.specs.Calls.{call_carry, statement_ok}
use Rattle.calls.specs.Numbers.{unfold_refuses}
use Rattle.env.specs.Answers.{carrying}
use Rattle.state.specs.Value.{value}
use Rattle.env.proofs.Called.{tested_input, gives_stops, gives_goes}
use Rattle.env.proofs.unfold.Goals as goal

pub unfold-answer-requires : goal.unfold-answer-requires
unfold-answer-requires c = tested_input c.in-Ok.ensures

pub returns-in-Ok : goal.returns-in-Ok
unfolding call_carry statement_ok carrying unfold_ok
returns-in-Ok c =
    let a = c.args in
    let R = gives_goes a.types.now a.locals.now a.s a.ops.now a.args.now (unfold_ok (length a.locals.now)) (carrying a.types.now a.locals.now Unfold) (unfold_refuses a.types.now a.locals.now (value a.s) a.ops.now a.args.now) c.in-Ok.ensures c.unfold-answer.ensures in
    record { gives = R.0; promised = R.1 }

pub returns-in-Err : goal.returns-in-Err
unfolding call_carry statement_ok carrying unfold_ok
returns-in-Err c =
    let a = c.args in
    let R = gives_stops a.types.now a.locals.now a.s a.ops.now a.args.now (unfold_ok (length a.locals.now)) (carrying a.types.now a.locals.now Unfold) (unfold_refuses a.types.now a.locals.now (value a.s) a.ops.now a.args.now) c.in-Err.ensures in
    record { gives = R.0; promised = R.1 }
