-- `env::projection` meets its contract: a test stops it, or it is done. Assumes nothing.
use Rattle.env.proofs.Called.{tested_input, projection_stops, projection_goes}
use Rattle.env.proofs.projection.Goals as goal

pub projection-answer-requires : goal.projection-answer-requires
projection-answer-requires c = tested_input c.in-Ok.ensures

pub returns-in-Ok : goal.returns-in-Ok
returns-in-Ok c =
    let a = c.args in
    let R = projection_goes a.types.now a.locals.now a.s a.ops.now a.args.now c.in-Ok.ensures c.projection-answer.ensures in
    record { records = R.0; promised = R.1 }

pub returns-in-Err : goal.returns-in-Err
returns-in-Err c =
    let a = c.args in
    let R = projection_stops a.types.now a.locals.now a.s a.ops.now a.args.now c.in-Err.ensures in
    record { records = R.0; promised = R.1 }
