-- `join::join` meets its contract: by what its tests and `join_into` ensure.
use Rattle.std.proofs.Common.{refl}
use Rattle.state.specs.Value.{value}
use Rattle.input.proofs.Tested.{given_read}
use Rattle.join.proofs.Called.{promised, joins_refused, joins_done, call_untyped, call_first, call_second, call_full, call_to, joined_value}
use Rattle.join.proofs.join.Goals as goal

pub returns-in-Err : goal.returns-in-Err
returns-in-Err c =
    let a = c.args in
    let P = promised a.types.now a.locals.now a.s a.e (joins_refused (call_untyped _ _ _ c.in-Err.ensures) c.refused.ensures) in
    record { joins = P.0; promised = P.1 }

pub returns-in-Err-check_given : goal.returns-in-Err-check_given
returns-in-Err-check_given c =
    let a = c.args in
    let P = promised a.types.now a.locals.now a.s a.e
    (joins_refused (call_first _ _ c.in_default.ensures _ c.in-Err-check_given.ensures) c.refused-in-Err-check_given.ensures) in
    record { joins = P.0; promised = P.1 }

pub returns-in-Err-check_given-2 : goal.returns-in-Err-check_given-2
returns-in-Err-check_given-2 c =
    let a = c.args in
    let S = given_read a.types.now a.locals.now (value a.s) c.in_default-check_given.ensures refl in
    let P = promised a.types.now a.locals.now a.s a.e
    (joins_refused (call_second _ _ c.in_default.ensures S.1 _ c.in-Err-check_given-2.ensures) c.refused-in-Err-check_given-2.ensures) in
    record { joins = P.0; promised = P.1 }

pub join_into-requires-clause-given : goal.join_into-requires-clause-given
join_into-requires-clause-given c =
    let S = given_read c.args.types.now c.args.locals.now (value c.args.s) c.in_default-check_given.ensures refl in
    (S.0, S.2)

pub join_into-requires-clause-given_2 : goal.join_into-requires-clause-given_2
join_into-requires-clause-given_2 c =
    let E = given_read c.args.types.now c.args.locals.now (value c.args.e) c.in_default-check_given-2.ensures refl in
    (E.0, E.2)

pub returns-in_default-join_into : goal.returns-in_default-join_into
returns-in_default-join_into c =
    let a = c.args in
    let S = given_read a.types.now a.locals.now (value a.s) c.in_default-check_given.ensures refl in
    let E = given_read a.types.now a.locals.now (value a.e) c.in_default-check_given-2.ensures refl in
    let J = c.in_default-join_into.ensures S.0 E.0 S.2 E.2 in
    let P = promised a.types.now a.locals.now a.s a.e
    (joins_refused (call_full _ _ c.in_default.ensures S.1 E.1 J.answer) c.refused-in_default-join_into.ensures) in
    record { joins = P.0; promised = P.1 }

pub returns : goal.returns
returns c =
    let a = c.args in
    let S = given_read a.types.now a.locals.now (value a.s) c.in_default-check_given.ensures refl in
    let E = given_read a.types.now a.locals.now (value a.e) c.in_default-check_given-2.ensures refl in
    let J = c.in-Some.ensures S.0 E.0 S.2 E.2 in
    let T = call_to _ _ c.in_default.ensures S.1 E.1 J.answer in
    let P = promised a.types.now a.locals.now a.s a.e (joins_done T.0 refl (joined_value J T.1 T.2)) in
    record { joins = P.0; promised = P.1 }
