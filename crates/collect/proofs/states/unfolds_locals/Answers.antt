-- `collect::states::unfolds_locals` meets its contract: the invariant in each round and at its end.
use Rattle.std.proofs.Common.{refl, arith}
use Rattle.std.proofs.lemmas.Result.{err_from_is_err_and}
use Rattle.base.specs.Typed.{locals_typed}
use Rattle.collectors.proofs.Standing.{long_kept}
use Rattle.collect.proofs.Passing.{root_first, local_stands, opened_all, opened_refused, opened_more}
use Rattle.collect.proofs.states.unfolds_locals.Goals as goal

pub set_item-requires-clause-arg_bound : goal.set_item-requires-clause-arg_bound
set_item-requires-clause-arg_bound c =
    omega (arith, (locals_typed c.args.types.now.words.now c.args.locals.now c.requires.locals_value).few)

pub unfolds_node-requires-clause-typ_bound : goal.unfolds_node-requires-clause-typ_bound
unfolds_node-requires-clause-typ_bound c =
    (locals_typed c.args.types.now.words.now c.args.locals.now c.requires.locals_value).below c.loop-l.l (omega arith)

pub unfolds_node-requires-clause-stands : goal.unfolds_node-requires-clause-stands
unfolds_node-requires-clause-stands c =
    local_stands c.args.locals.now c.loop-l.l refl (omega arith) c.loop-l.invariant.1.stands

pub returns-in_err-g : goal.returns-in_err-g
returns-in_err-g c =
    let p = err_from_is_err_and c.from_residual.result c.from_residual.ensures.1 in
    rw (p.1, p.2) (opened_refused c.loop-l.invariant.1 refl (omega arith) c.in_err-g.ensures.opening)

pub loop-l-preserved : goal.loop-l-preserved
loop-l-preserved c =
    (long_kept c.loop-l.invariant.0 (omega arith) (omega arith), opened_more c.loop-l.invariant.1 refl (omega arith) c.in_ok-g.ensures.opening (root_first c.set_item.ensures))

pub returns : goal.returns
returns c = opened_all c.loop-l.invariant.1 (omega arith)
