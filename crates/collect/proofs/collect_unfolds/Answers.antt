-- `collect::collect_unfolds` meets its contract: by what its tests, the collector and `ended` ensure.
use Rattle.std.proofs.Common.{refl}
use Rattle.model.specs.Collect.{unfoldss}
use Rattle.state.specs.Value.{value}
use Rattle.input.proofs.Tested.{given_read}
use Rattle.collect.proofs.Promised.{unfolds_promised}
use Rattle.collect.proofs.Called.{writes_refused, writes_same, unfolds_untyped, unfolds_state, unfolds_goes, collects_from, ended_ready}
use Rattle.collect.proofs.collect_unfolds.Goals as goal

pub returns-in-Err : goal.returns-in-Err
returns-in-Err c = unfolds_promised c.args.types.now c.args.locals.now _ c.args.s (writes_refused _ (unfolds_untyped _ _ c.in-Err.ensures (value c.args.s)) c.refused.ensures)

pub returns-in-Err-check_given : goal.returns-in-Err-check_given
returns-in-Err-check_given c =
    unfolds_promised c.args.types.now c.args.locals.now _ c.args.s (writes_refused _ (unfolds_state _ c.in_default.ensures _ (value c.args.s) c.in-Err-check_given.ensures) c.refused-in-Err-check_given.ensures)

pub collect_unfolds-c-requires-clause-held : goal.collect_unfolds-c-requires-clause-held
collect_unfolds-c-requires-clause-held c =
    let S = given_read c.args.types.now c.args.locals.now (value c.args.s) c.in_default-check_given.ensures refl in (S.0, S.2)

pub ended-requires : goal.ended-requires
ended-requires c =
    let S = given_read c.args.types.now c.args.locals.now (value c.args.s) c.in_default-check_given.ensures refl in
    ended_ready (collects_from c.start.ensures (c.collect_unfolds-c.ensures S.0 S.2))

pub returns : goal.returns
returns c =
    let S = given_read c.args.types.now c.args.locals.now (value c.args.s) c.in_default-check_given.ensures refl in
    let told = collects_from c.start.ensures (c.collect_unfolds-c.ensures S.0 S.2) in
    let goes = unfolds_goes _ c.in_default.ensures _ S.1 in
    unfolds_promised c.args.types.now c.args.locals.now _ c.args.s (writes_same (unfoldss c.args.types.now S.0) c.collect_unfolds-c.auto.out goes (c.ended.ensures _ _ told))
