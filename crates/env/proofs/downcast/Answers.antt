-- `env::downcast` meets its contract: a test stops it, or it is done. Assumes nothing.
use lib.ListN.{length}
use Rattle.model.specs.Place.{used_ok}
use Rattle.model.specs.Walk.{downcasting}
use Rattle.model.specs.Calls.{call_downcast}
use Rattle.calls.specs.Numbers.{downcast_refuses}
use Rattle.state.specs.Value.{value}
use Rattle.env.proofs.Called.{tested_input, gives_stops, gives_goes}
use Rattle.env.proofs.downcast.Goals as goal

pub downcast-answer-requires : goal.downcast-answer-requires
downcast-answer-requires c = tested_input c.in-Ok.ensures

pub returns-in-Ok : goal.returns-in-Ok
unfolding call_downcast
returns-in-Ok c =
    let a = c.args in
    let R = gives_goes a.types.now a.locals.now a.s a.ops.now a.args.now (used_ok (length a.locals.now)) (λ q E. downcasting a.types.now q a.variant E) (downcast_refuses a.types.now a.locals.now (value a.s) a.ops.now a.args.now a.variant) c.in-Ok.ensures c.downcast-answer.ensures in
    record { gives = R.0; promised = R.1 }

pub returns-in-Err : goal.returns-in-Err
unfolding call_downcast
returns-in-Err c =
    let a = c.args in
    let R = gives_stops a.types.now a.locals.now a.s a.ops.now a.args.now (used_ok (length a.locals.now)) (λ q E. downcasting a.types.now q a.variant E) (downcast_refuses a.types.now a.locals.now (value a.s) a.ops.now a.args.now a.variant) c.in-Err.ensures in
    record { gives = R.0; promised = R.1 }
