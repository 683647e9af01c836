-- `env::open::last_step` meets its contract: the walk is refused, or has ended. Assumes nothing.
use mathlib.Core.Path.{◌≡◌}
use lib.ListN.{length}
use Rattle.std.proofs.Common.{rules}
use Rattle.std.specs.Prelude.{Err}
use Rattle.walk.specs.Applied.{element}
use Rattle.env.proofs.Limits.{unfold_walks, given_passes}
use Rattle.env.proofs.Walked.{walk_given, walk_limited, walk_sited}
use Rattle.env.proofs.Lasts.{last_refused}
use Rattle.env.proofs.open.last_step.Goals as goal

pub ensure_unfolded-requires : goal.ensure_unfolded-requires
ensure_unfolded-requires c =
    (c.requires.asked.0, (c.requires.asked.1.0, (c.args.s.now.nodes, walk_given (unfold_walks (length c.args.locals.now)) c.requires.asked.1.1)))

pub returns-in_err-w : goal.returns-in_err-w
returns-in_err-w c =
    let e : c.from_residual.result ≡ Err c.in_err-w.field-0.0 = search rules in
    rw e (λ E q h is. last_refused (element c.args.more) h.trees.fits q (walk_limited (unfold_walks (length c.args.locals.now)) c.requires.asked.1.1 is).known (c.in_err-w.ensures c.args.s.now.nodes E q h is))

pub last_at-requires : goal.last_at-requires
last_at-requires c =
    let g = c.requires.asked.1.1 in
    let d = walk_sited (unfold_walks (length c.args.locals.now)) g (c.in_ok-w.ensures c.args.s.now.nodes) g.holds g.is in record { arrived = (c.args.ops.now, c.args.args.now, d); staying = c.requires.staying }

pub returns : goal.returns
returns c =
    let g = c.requires.asked.1.1 in
    λ E q h is. c.last_at.ensures c.args.ops.now c.args.args.now (walk_sited (unfold_walks (length c.args.locals.now)) g (c.in_ok-w.ensures c.args.s.now.nodes) h is) (given_passes g is)
