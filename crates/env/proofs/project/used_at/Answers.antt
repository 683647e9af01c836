-- `env::project::used_at` meets its contract: an unfold, a fold or nothing. Assumes nothing.
use native.Mathlib.Omega.{arith}
use Rattle.state.proofs.Fields.{ready_typed}
use Rattle.env.proofs.Answered.{projects_refused}
use Rattle.env.proofs.Lasts.{sited_within, sited_few}
use Rattle.env.proofs.Uses.{unfold_opens, unfold_full, unfold_projects, fold_folds, fold_projects, nothing_projects}
use Rattle.env.proofs.project.used_at.Goals as goal

pub overflow_add-s : goal.overflow_add-s
overflow_add-s c = record { fits = omega (arith, sited_few (ready_typed c.args.types.now.ready) c.requires.sited, c.requires.sited.holds.shape.few) }

pub returns-then-s-w-gt-MOST_NODES : goal.returns-then-s-w-gt-MOST_NODES
returns-then-s-w-gt-MOST_NODES c = λ d k. projects_refused (unfold_full (ready_typed c.args.types.now.ready) d c.if-w.true c.if-s-w-gt-MOST_NODES.true)

pub open_nodes-requires : goal.open_nodes-requires
open_nodes-requires c =
    record { opens = unfold_opens (ready_typed c.args.types.now.ready) c.requires.sited c.if-w.true c.if-s-w-gt-MOST_NODES.false }

pub returns-then-w : goal.returns-then-w
returns-then-w c = λ d k. unfold_projects (ready_typed c.args.types.now.ready) d c.if-w.true c.if-s-w-gt-MOST_NODES.false k c.open_nodes.ensures

pub offset_bounds-s-w : goal.offset_bounds-s-w
offset_bounds-s-w c = record { fits = omega (arith, sited_within (ready_typed c.args.types.now.ready) c.requires.sited) }

pub bounds-s-w : goal.bounds-s-w
bounds-s-w c = omega (arith, sited_within (ready_typed c.args.types.now.ready) c.requires.sited, c.requires.sited.holds.shape.forms_long)

pub fold_at-requires : goal.fold_at-requires
fold_at-requires c =
    let d = c.requires.sited in record { t_bound = d.site.passing.midway.known; folds = fold_folds (ready_typed c.args.types.now.ready) d (omega (arith, c.if-w.false, d.site.passing.most)) }

pub returns-then-open : goal.returns-then-open
returns-then-open c =
    λ d k. fold_projects (ready_typed c.args.types.now.ready) d (omega (arith, c.if-w.false, d.site.passing.most)) c.if-open.true k c.fold_at.ensures

pub returns : goal.returns
returns c =
    λ d k. nothing_projects (ready_typed c.args.types.now.ready) d (omega (arith, c.if-w.false, d.site.passing.most)) c.if-open.false
