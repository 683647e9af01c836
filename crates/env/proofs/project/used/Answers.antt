-- `env::project::used` meets its contract: the walk is refused, or has ended. Assumes nothing.
use mathlib.Core.Path.{◌≡◌}
use lib.ListN.{length}
use Rattle.std.proofs.Common.{rules}
use Rattle.std.specs.Prelude.{Err}
use Rattle.env.proofs.Limits.{fold_walks, given_passes}
use Rattle.env.proofs.Walked.{walk_given, walk_limited, walk_sited}
use Rattle.env.proofs.Answered.{projects_refused}
use Rattle.env.proofs.Projecting.{projection_refused}
use Rattle.env.proofs.project.used.Goals as goal

pub ensure_unfolded-requires : goal.ensure_unfolded-requires
ensure_unfolded-requires c = (c.requires.0, (c.requires.1.0, (c.args.s.now.nodes, walk_given (fold_walks (length c.args.locals.now)) c.requires.1.1)))

pub returns-in_err-w : goal.returns-in_err-w
returns-in_err-w c =
    let e : c.from_residual.result ≡ Err c.in_err-w.field-0.0 = search rules in
    rw e (λ E q h is. projects_refused (projection_refused h.trees.fits q (walk_limited (fold_walks (length c.args.locals.now)) c.requires.1.1 is).known (c.in_err-w.ensures c.args.s.now.nodes E q h is)))

pub used_at-requires : goal.used_at-requires
used_at-requires c =
    let g = c.requires.1.1 in record { sited = walk_sited (fold_walks (length c.args.locals.now)) g (c.in_ok-w.ensures c.args.s.now.nodes) g.holds g.is }

pub returns : goal.returns
returns c =
    let g = c.requires.1.1 in
    λ E q h is. c.used_at.ensures (walk_sited (fold_walks (length c.args.locals.now)) g (c.in_ok-w.ensures c.args.s.now.nodes) h is) (given_passes g is)
