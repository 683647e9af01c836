-- `arrival::arrive::arrive` meets its contract: the state that is stored already changes nothing; any other is merged.
use mathlib.Core.Path.{sym, ◌∙◌}
use Rattle.state.proofs.Fields.{ready_typed}
use Rattle.arrival.proofs.Stored.{saved_same}
use Rattle.arrival.proofs.Arrived.{arrives_same}
use Rattle.arrival.proofs.arrive.arrive.Goals as goal

pub returns-then-stands-clause-arriving : goal.returns-then-stands-clause-arriving
returns-then-stands-clause-arriving c o E v h =
    let F = c.stands.ensures.0 c.if-stands.true in
    let e = saved_same _ _ _ _ _ (ready_typed c.args.fun.now.accepted.ready).known o v h (sym c.stored-k.ensures ∙ F.0) F.1 F.2 in
    rw e (arrives_same (rw e at v))
