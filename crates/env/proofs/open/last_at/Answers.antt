-- `env::open::last_at` meets its contract: an open node stays as it is, a folded one is opened. Assumes nothing.
use mathlib.Core.Path.{◌≡◌, sym}
use native.Mathlib.Omega.{arith}
use Rattle.std.proofs.Common.{rules}
use Rattle.std.specs.Prelude.{Err}
use Rattle.state.proofs.Fields.{ready_typed}
use Rattle.walk.specs.Applied.{element}
use Rattle.walk.proofs.Ends.{step_stays, step_barred}
use Rattle.walk.proofs.Growing.{sprig_to}
use Rattle.env.proofs.Lasts.{sited_within, sited_bud, sited_few, stay_moves, stay_barred, grow_barred, grow_full, grow_widens}
use Rattle.env.proofs.open.last_at.Goals as goal

pub offset_bounds-s-w : goal.offset_bounds-s-w
offset_bounds-s-w c = record { fits = omega (arith, sited_within (ready_typed c.args.types.now.ready) c.requires.arrived.2) }

pub bounds-s-w : goal.bounds-s-w
bounds-s-w c =
    let d = c.requires.arrived.2 in
    omega (arith, sited_within (ready_typed c.args.types.now.ready) d, d.holds.shape.forms_long)

pub returns-in_err-step_open : goal.returns-in_err-step_open
returns-in_err-step_open c =
    let e : c.from_residual.result ≡ Err c.in_err-step_open.field-0.0 = search rules in
    rw e (λ ops args d k.
    let m = d.site.passing.midway in
    let el = element c.args.more in
    stay_barred (ready_typed c.args.types.now.ready) d el c.if-s-w-ne0.true (step_barred c.args.types.now.words.now el c.requires.staying m.tree (c.in_err-step_open.ensures m.tree m.here)))

pub returns-then-s-w-ne0 : goal.returns-then-s-w-ne0
returns-then-s-w-ne0 c =
    λ ops args d k.
    let m = d.site.passing.midway in
    let el = element c.args.more in
    stay_moves (ready_typed c.args.types.now.ready) d el c.if-s-w-ne0.true (step_stays c.args.types.now.words.now el c.requires.staying m.tree (c.in_ok-step_open.ensures m.tree m.here))

pub step_folded-requires : goal.step_folded-requires
step_folded-requires c =
    let h = ready_typed c.args.types.now.ready in
    let d = c.requires.arrived.2 in record { bud = sited_bud h d; added_bound = omega (arith, sited_few h d) }

pub returns-in_err-fresh : goal.returns-in_err-fresh
returns-in_err-fresh c =
    let e : c.from_residual-in_err-fresh.result ≡ Err c.in_err-fresh.field-0.0 = search rules in
    rw e (λ ops args d k. grow_barred (ready_typed c.args.types.now.ready) d c.if-s-w-ne0.false c.args.more c.requires.staying (sym c.in_err-fresh.ensures))

pub overflow_add-s : goal.overflow_add-s
overflow_add-s c =
    let h = ready_typed c.args.types.now.ready in
    let d = c.requires.arrived.2 in
    record { fits = omega (arith, (sprig_to c.args.types.now.words.now h (sited_bud h d) (sym c.in_ok-fresh.ensures)).few, sited_few h d, d.holds.shape.few) }

pub returns-then-s-fresh-gt-MOST_NODES : goal.returns-then-s-fresh-gt-MOST_NODES
returns-then-s-fresh-gt-MOST_NODES c =
    λ ops args d k. grow_full (ready_typed c.args.types.now.ready) d c.if-s-w-ne0.false c.args.more c.requires.staying (sym c.in_ok-fresh.ensures) c.if-s-fresh-gt-MOST_NODES.true

pub returns : goal.returns
returns c =
    λ ops args d k. grow_widens (ready_typed c.args.types.now.ready) d c.if-s-w-ne0.false c.args.more c.requires.staying (sym c.in_ok-fresh.ensures) c.if-s-fresh-gt-MOST_NODES.false k
