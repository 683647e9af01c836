-- `collect::collect_fold_unfolds` meets its contract: by what its tests, the collector and `ended` ensure.
use Rattle.std.proofs.Common.{refl}
use Rattle.model.specs.Collect.{collects}
use Rattle.state.specs.Value.{value}
use Rattle.input.proofs.Tested.{given_read}
use Rattle.collect.proofs.Promised.{collect_promised}
use Rattle.collect.proofs.Called.{writes_refused, writes_same, collect_untyped, collect_first, collect_second, collect_goes, collects_from, ended_ready}
use Rattle.collect.proofs.collect_fold_unfolds.Goals as goal

pub returns-in-Err : goal.returns-in-Err
returns-in-Err c = collect_promised c.args.types.now c.args.locals.now _ c.args.s c.args.e (writes_refused _ (collect_untyped _ _ c.in-Err.ensures (value c.args.s) (value c.args.e)) c.refused.ensures)

pub returns-in-Err-check_given : goal.returns-in-Err-check_given
returns-in-Err-check_given c =
    collect_promised c.args.types.now c.args.locals.now _ c.args.s c.args.e (writes_refused _ (collect_first _ c.in_default.ensures _ (value c.args.s) (value c.args.e) c.in-Err-check_given.ensures) c.refused-in-Err-check_given.ensures)

pub returns-in-Err-check_given-2 : goal.returns-in-Err-check_given-2
returns-in-Err-check_given-2 c =
    let S = given_read c.args.types.now c.args.locals.now (value c.args.s) c.in_default-check_given.ensures refl in
    collect_promised c.args.types.now c.args.locals.now _ c.args.s c.args.e (writes_refused _ (collect_second _ c.in_default.ensures _ S.1 _ (value c.args.e) c.in-Err-check_given-2.ensures) c.refused-in-Err-check_given-2.ensures)

pub collect_fold_unfolds-c-requires-clause-held : goal.collect_fold_unfolds-c-requires-clause-held
collect_fold_unfolds-c-requires-clause-held c =
    let S = given_read c.args.types.now c.args.locals.now (value c.args.s) c.in_default-check_given.ensures refl in (S.0, S.2)

pub collect_fold_unfolds-c-requires-clause-held_2 : goal.collect_fold_unfolds-c-requires-clause-held_2
collect_fold_unfolds-c-requires-clause-held_2 c =
    let E = given_read c.args.types.now c.args.locals.now (value c.args.e) c.in_default-check_given-2.ensures refl in (E.0, E.2)

pub ended-requires : goal.ended-requires
ended-requires c =
    let S = given_read c.args.types.now c.args.locals.now (value c.args.s) c.in_default-check_given.ensures refl in
    let E = given_read c.args.types.now c.args.locals.now (value c.args.e) c.in_default-check_given-2.ensures refl in
    ended_ready (collects_from c.start.ensures (c.collect_fold_unfolds-c.ensures S.0 E.0 S.2 E.2))

pub returns : goal.returns
returns c =
    let S = given_read c.args.types.now c.args.locals.now (value c.args.s) c.in_default-check_given.ensures refl in
    let E = given_read c.args.types.now c.args.locals.now (value c.args.e) c.in_default-check_given-2.ensures refl in
    let told = collects_from c.start.ensures (c.collect_fold_unfolds-c.ensures S.0 E.0 S.2 E.2) in
    let goes = collect_goes _ c.in_default.ensures _ S.1 _ E.1 in
    collect_promised c.args.types.now c.args.locals.now _ c.args.s c.args.e (writes_same (collects c.args.types.now S.0 E.0) c.collect_fold_unfolds-c.auto.out goes (c.ended.ensures _ _ told))
