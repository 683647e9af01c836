-- `walk::apply::write_path` meets its contract. The loop's invariant: what the walk by types has opened so far is written. Assumes nothing.
use mathlib.Core.Path.{refl, sym, ◌∙◌, ap}
use Prim.Native.Nat.{ℕ, ◌+◌}
use native.Mathlib.Omega.{arith}
use Rattle.state.proofs.Fields.{ready_typed, ready_sized}
use Rattle.walk.proofs.Turns.{turn_start, writing_start, writing_done, writing_slim, writing_room, writing_pen, writing_first, writing_more}
use Rattle.walk.proofs.apply.write_path.Goals as goal

pub loop-at-init : goal.loop-at-init
loop-at-init c = rw c.folded-fresh.ensures (λ g d. writing_start (turn_start c.requires.stretch.0 c.requires.typ_bound c.requires.from_value))

pub write_open-requires : goal.write_open-requires
write_open-requires c =
    let R = c.requires.room in
    let w = c.loop-at.invariant R.end R.leads in
    let l = c.loop-at-test.true in
    let h = ready_typed c.args.types.now.ready in
    let room = writing_room h w R.leads l in
    record {
      sized = ready_sized c.args.types.now.ready;
      typ_bound = w.turn.fine.known;
      arg_bound = writing_slim h w R.leads l;
      both_have = (omega (arith, w.pen, room, R.forms), omega (arith, w.pen, room, R.whats));
    }

pub overflow_add-p : goal.overflow_add-p
overflow_add-p c =
    let R = c.requires.room in
    let w = c.loop-at.invariant R.end R.leads in
    omega (arith, c.distance-p.ensures, w.pen, writing_pen (ready_typed c.args.types.now.ready) w R.leads c.loop-at-test.true, R.forms)

pub step_folded-requires-clause-bud : goal.step_folded-requires-clause-bud
step_folded-requires-clause-bud c = let R = c.requires.room in (c.loop-at.invariant R.end R.leads).turn.fine

pub step_folded-requires-clause-added_bound : goal.step_folded-requires-clause-added_bound
step_folded-requires-clause-added_bound c =
    let R = c.requires.room in
    omega (arith, (c.loop-at.invariant R.end R.leads).turn.few, c.loop-at-test.true, c.requires.stretch.3)

pub unwrap-fresh-requires : goal.unwrap-fresh-requires
unwrap-fresh-requires c =
    let R = c.requires.room in
    rw (c.step_folded.ensures, (writing_first (ready_typed c.args.types.now.ready) (c.loop-at.invariant R.end R.leads) R.leads c.loop-at-test.true).leads) refl

pub loop-at-preserved : goal.loop-at-preserved
loop-at-preserved c =
    λ g e. writing_more (ready_typed c.args.types.now.ready) (c.loop-at.invariant g e) e c.loop-at-test.true c.write_open.ensures.0 c.write_open.ensures.1
    (ap (λ (n : ℕ). c.loop-at.p + n) c.distance-p.ensures) (sym c.step_folded.ensures ∙ c.unwrap-fresh.ensures)

pub returns : goal.returns
returns c = λ g d. writing_done (ready_typed c.args.types.now.ready) (c.loop-at.invariant g d) d c.loop-at-test.false
