-- `assign::give::put_place` meets its contract. Assumes nothing.
use mathlib.Core.Path.{refl}
use Rattle.assign.proofs.Placing.{placed_none, placed_room, placed_more, placed_some}
use Rattle.assign.proofs.give.put_place.Goals as goal

pub returns-then-n-eq0 : goal.returns-then-n-eq0
returns-then-n-eq0 c =
    placed_none c.args.list.now c.args.p c.args.deref c.args.action refl refl refl c.if-n-eq0.true

pub put_items-r-requires-clause-room : goal.put_items-r-requires-clause-room
put_items-r-requires-clause-room c =
    let a = c.args in
    placed_room a.list.now a.p a.deref a.action refl refl refl c.if-n-eq0.false c.requires.room

pub put_action-requires : goal.put_action-requires
put_action-requires c =
    let a = c.args in
    placed_more a.list.now a.p a.deref a.action refl refl refl c.if-n-eq0.false c.put_items-r.ensures c.requires.room

pub returns : goal.returns
returns c =
    let a = c.args in
    placed_some a.list.now a.p a.deref a.action refl refl refl c.if-n-eq0.false c.put_items-r.ensures c.put_action.ensures
