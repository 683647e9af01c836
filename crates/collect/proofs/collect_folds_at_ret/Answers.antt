-- `collect::collect_folds_at_ret` meets its contract: by what its tests, the collector and `finish` ensure.
use Rattle.std.proofs.Common.{refl}
use Rattle.model.specs.Answer.{done}
use Rattle.model.specs.Collect.{folds_at_ret}
use Rattle.state.specs.Value.{value}
use Rattle.input.proofs.Tested.{given_read}
use Rattle.refusal.specs.declared.Refusal.TheVariants.{BadState}
use Rattle.collect.proofs.Promised.{folds_promised}
use Rattle.collect.proofs.Called.{writes_refused, writes_same, folds_untyped, folds_args, folds_state, folds_goes, puts_from, ended_puts}
use Rattle.collect.proofs.collect_folds_at_ret.Goals as goal

pub returns-in-Err : goal.returns-in-Err
returns-in-Err c = folds_promised c.args.types.now c.args.locals.now _ c.args.a c.args.s (writes_refused _ (folds_untyped _ _ c.in-Err.ensures c.args.a (value c.args.s)) c.refused.ensures)

pub returns-then-locals-a : goal.returns-then-locals-a
returns-then-locals-a c =
    folds_promised c.args.types.now c.args.locals.now _ c.args.a c.args.s (writes_refused BadState (folds_args _ c.in_default.ensures c.args.a (value c.args.s) c.if-locals-a.true) c.refused-then-locals-a.ensures)

pub returns-in-Err-check_given : goal.returns-in-Err-check_given
returns-in-Err-check_given c =
    folds_promised c.args.types.now c.args.locals.now _ c.args.a c.args.s (writes_refused _ (folds_state _ c.in_default.ensures _ c.args.a (value c.args.s) c.if-locals-a.false c.in-Err-check_given.ensures) c.refused-in-Err-check_given.ensures)

pub collect_folds_at_ret-o-requires-clause-held_in : goal.collect_folds_at_ret-o-requires-clause-held_in
collect_folds_at_ret-o-requires-clause-held_in c =
    let S = given_read c.args.types.now c.args.locals.now (value c.args.s) c.in_default-check_given.ensures refl in (c.args.s.nodes, (S.0, S.2))

pub finish-requires : goal.finish-requires
finish-requires c =
    let S = given_read c.args.types.now c.args.locals.now (value c.args.s) c.in_default-check_given.ensures refl in
    (c.collect_folds_at_ret-o.ensures c.args.s.nodes S.0 S.2).counted

pub returns : goal.returns
returns c =
    let S = given_read c.args.types.now c.args.locals.now (value c.args.s) c.in_default-check_given.ensures refl in
    let b = folds_at_ret c.args.types.now c.args.a S.0 in
    let goes = folds_goes _ c.in_default.ensures _ S.1 c.args.a c.if-locals-a.false in
    let put = puts_from c.start.ensures b (c.collect_folds_at_ret-o.ensures c.args.s.nodes S.0 S.2) in
    folds_promised c.args.types.now c.args.locals.now _ c.args.a c.args.s (writes_same (done b) c.collect_folds_at_ret-o.auto.out goes (ended_puts b put c.finish.ensures))
