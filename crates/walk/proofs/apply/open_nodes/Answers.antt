-- `walk::apply::open_nodes` meets its contract: room is made, the walk written there, and one step more, if there is one. Assumes nothing.
use Rattle.state.proofs.Fields.{ready_typed, ready_sized}
use Rattle.walk.proofs.Inks.{encoded_long, encoded_fronted}
use Rattle.walk.proofs.Carrying.{opens_slim, opens_room, pen_known, pen_within, carried_none, carried_last}
use Rattle.walk.proofs.apply.open_nodes.Goals as goal
use Rattle.walk.proofs.apply.open_nodes.Goals.{in-Some, in_default}

pub make_room-requires-clause-padded : goal.make_room-requires-clause-padded
make_room-requires-clause-padded c = let E = c.requires.opens.coded in ((encoded_long E).0, (encoded_fronted E).0)

pub make_room-requires-2-clause-padded : goal.make_room-requires-2-clause-padded
make_room-requires-2-clause-padded c = let E = c.requires.opens.coded in ((encoded_long E).1, (encoded_fronted E).1)

pub write_path-p-requires-clause-room : goal.write_path-p-requires-clause-room
write_path-p-requires-clause-room c = opens_room (ready_typed c.args.types.now.ready) c.requires.opens c.make_room.ensures c.make_room-2.ensures

pub write_open-requires : goal.write_open-requires
write_open-requires c =
    let h = ready_typed c.args.types.now.ready in
    let O = c.requires.opens in
    let W = c.write_path-p in
    record {
      sized = ready_sized c.args.types.now.ready;
      typ_bound = pen_known h O c.make_room.ensures c.make_room-2.ensures W.ensures;
      arg_bound = opens_slim h O c.in-Some.is;
      both_have = pen_within h O c.make_room.ensures c.make_room-2.ensures W.ensures W.auto.forms W.auto.whats;
    }

pub returns : goal.returns
returns c =
    let h = ready_typed c.args.types.now.ready in
    let O = c.requires.opens in
    let f = c.make_room.ensures in
    let g = c.make_room-2.ensures in
    let P = c.write_path-p.ensures in
    elim c.match-more.branch [
      | in-Some w ↦ rw w.s-is (carried_last h O f g P w.in-Some.is w.write_open.ensures.0 w.write_open.ensures.1)
      | in_default w ↦ rw w.s-is (carried_none h O f g P w.in_default.is)
    ]
