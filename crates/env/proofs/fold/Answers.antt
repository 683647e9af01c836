-- `env::fold` meets its contract: a test stops it, or it is done. Assumes nothing.
use lib.ListN.{length}
use Rattle.model.specs.Place.{Fold, fold_ok}
use Rattle.model.specs.Calls.{call_carry, statement_ok}
use Rattle.calls.specs.Numbers.{fold_refuses}
use Rattle.env.specs.Answers.{carrying}
use Rattle.state.specs.Value.{value}
use Rattle.env.proofs.Called.{tested_input, gives_stops, gives_goes}
use Rattle.env.proofs.fold.Goals as goal

pub fold-answer-requires : goal.fold-answer-requires
fold-answer-requires c = tested_input c.in-Ok.ensures

pub returns-in-Ok : goal.returns-in-Ok
unfolding call_carry statement_ok carrying
returns-in-Ok c =
    let a = c.args in
    let R = gives_goes a.types.now a.locals.now a.s a.ops.now a.args.now (fold_ok (length a.locals.now)) (carrying a.types.now a.locals.now Fold) (fold_refuses a.types.now a.locals.now (value a.s) a.ops.now a.args.now) c.in-Ok.ensures c.fold-answer.ensures in
    record { gives = R.0; promised = R.1 }

pub returns-in-Err : goal.returns-in-Err
unfolding call_carry statement_ok carrying
returns-in-Err c =
    let a = c.args in
    let R = gives_stops a.types.now a.locals.now a.s a.ops.now a.args.now (fold_ok (length a.locals.now)) (carrying a.types.now a.locals.now Fold) (fold_refuses a.types.now a.locals.now (value a.s) a.ops.now a.args.now) c.in-Err.ensures in
    record { gives = R.0; promised = R.1 }
