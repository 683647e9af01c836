-- `collect::states::folds_locals` meets its contract: the invariant at its start, in each round and at its end.
use Rattle.std.proofs.Common.{refl, ◌+◌, ◌<◌, length, arith}
use lib.ListN.{length-take}
use lib.Seq.{get_or-take}
use Rattle.base.specs.Typed.{locals_typed}
use Rattle.collectors.proofs.Standing.{long_kept, stands_here}
use Rattle.collect.proofs.Passing.{root_first, local_stands, rest_stands, owed_none, owed_all, owed_more}
use Rattle.collect.proofs.Collected.{owed_told}
use Rattle.collect.proofs.states.folds_locals.Goals as goal

pub node_end-i-requires-clause-t_bound : goal.node_end-i-requires-clause-t_bound
node_end-i-requires-clause-t_bound c = (locals_typed c.args.types.now.words.now c.args.locals.now c.requires.locals_value).below 0 (omega arith)

pub node_end-i-requires-clause-here : goal.node_end-i-requires-clause-here
node_end-i-requires-clause-here c = stands_here (local_stands c.args.locals.now 0 refl (omega arith) c.requires.stand_all)

pub loop-l-init : goal.loop-l-init
loop-l-init c =
    let h : 0 < length c.args.locals.now = omega arith in
    let rest = rest_stands c.args.locals.now refl h c.requires.stand_all c.node_end-i.ensures in
    (c.requires.long, rw c.reached-g.ensures (owed_none refl c.requires.counted rest))

pub set_item-requires-clause-arg_bound : goal.set_item-requires-clause-arg_bound
set_item-requires-clause-arg_bound c =
    omega (arith, (locals_typed c.args.types.now.words.now c.args.locals.now c.requires.locals_value).few)

pub folds_node-g-requires-clause-typ_bound : goal.folds_node-g-requires-clause-typ_bound
folds_node-g-requires-clause-typ_bound c =
    (locals_typed c.args.types.now.words.now c.args.locals.now c.requires.locals_value).below c.loop-l.l (omega arith)

pub folds_node-g-requires-clause-stands : goal.folds_node-g-requires-clause-stands
folds_node-g-requires-clause-stands c = local_stands c.args.locals.now c.loop-l.l refl (omega arith) c.loop-l.invariant.1.stands

pub loop-l-preserved : goal.loop-l-preserved
loop-l-preserved c =
    let h : c.loop-l.l < length c.args.locals.now = omega arith in
    let k : c.loop-l.l < c.args.a + 1 = omega arith in
    let same = get_or-take (c.args.a + 1) c.args.locals.now c.loop-l.l 0 k in
    let more = owed_more c.loop-l.invariant.1 refl h (omega (arith, length-take (c.args.a + 1) c.args.locals.now)) same c.folds_node-g.ensures.owing (root_first c.set_item.ensures) in
    (long_kept c.loop-l.invariant.0 (omega arith) (omega arith), more)

pub returns : goal.returns
returns c =
    owed_told c.args.locals.now c.args.a c.requires.a_in_bounds c.node_end-i.ensures
    (owed_all c.loop-l.invariant.1 (omega (arith, length-take (c.args.a + 1) c.args.locals.now)))
