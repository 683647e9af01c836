-- `arrival::arrive::reconcile` meets its contract: what is loaded and collected, by the laws of `Stored` and `Told`.
use mathlib.Core.Path.{◌≡◌, refl, subst}
use mathlib.Core.List.{List}
use mathlib.Core.Option.{some}
use Rattle.std.proofs.lemmas.Result.{err_from_is_err_and}
use Rattle.model.specs.Words.{word}
use Rattle.model.specs.Answer.{done}
use Rattle.model.specs.Tree.{Forest}
use Rattle.model.specs.Place.{At}
use Rattle.model.specs.Collect.{collects}
use Rattle.model.specs.Function.{local_types}
use Rattle.model.specs.Block.{entry_point}
use Rattle.model.specs.Record.{point_entry}
use Rattle.base.specs.Answer.{good_at}
use Rattle.base.specs.Each.{Each}
use Rattle.laws.specs.Lifted.{Dashed, collects_dashed}
use Rattle.records.specs.Here.{Holds}
use Rattle.state.specs.Value.{value}
use Rattle.statements.specs.Kept.{at_point}
use Rattle.statements.specs.declared.Out.{Out}
use Rattle.collect.specs.Answers.{Collects}
use Rattle.statements.specs.Points.{point}
use Rattle.arrival.specs.Shares.{kept_in, Full}
use Rattle.arrival.proofs.Stored.{accepted_locals, loaded_holds, saved_fits}
use Rattle.arrival.proofs.Told.{reconciles_refused, reconciles_over}
use Rattle.arrival.proofs.arrive.reconcile.Goals as goal
use Rattle.arrival.proofs.arrive.reconcile.Goals.{After-load_state-to, After-collect_fold_unfolds}

-- the state loaded is the one stored
loaded : (c : After-load_state-to) (S : Forest)
    → let a = c.args in
    Full a.fun.now.types.words.now (local_types a.fun.now.record.words.now) a.forms.now a.whats.now (word (kept_in a.memo.now) a.j.block) S
    → Holds a.fun.now.types.words.now (local_types a.fun.now.record.words.now) (value c.load_state-to.result) S
loaded c S f = loaded_holds f (rw c.stored-k.ensures at c.load_state-to.ensures)

-- what is collected
told : (c : After-collect_fold_unfolds) (S E : Forest)
    → let a = c.args in
    Holds a.fun.now.types.words.now (local_types a.fun.now.record.words.now) (value c.load_state-to.result) S → Holds a.fun.now.types.words.now (local_types a.fun.now.record.words.now) (value a.s) E
    → Collects a.out.now (at_point a.o c.point_of.result) c.collect_fold_unfolds.new.out (collects a.fun.now.types.words.now E S) c.collect_fold_unfolds.result
told c S E g h =
    let a = c.args in
    let P = c.collect_fold_unfolds.ensures E S (rw c.local_types.ensures h) (rw c.local_types.ensures g) in
    subst (λ (u : Out). Collects a.out.now u c.collect_fold_unfolds.new.out (collects a.fun.now.types.words.now E S) c.collect_fold_unfolds.result) c.at_point-p.ensures P

-- the point is the jump's
here : (c : After-collect_fold_unfolds)
    → let a = c.args in
    (c.point_of.result.op, c.point_of.result.arg) ≡ point_entry (entry_point a.fun.now.record.words.now) (point a.fun.now.record.words.now a.j.entry a.j.item)
here c = c.point_of.ensures c.args.fun.now.record.words.now c.args.fun.now.accepted.formed.laid.most_items c.requires.item_bound

-- what is collected tells a dash
dashed : (c : After-collect_fold_unfolds) (S E : Forest) (ts : List At) → collects c.args.fun.now.types.words.now E S ≡ done ts → Each Dashed ts
dashed c S E ts e = good_at (collects_dashed c.args.fun.now.types.words.now E S) e

pub load_state-to-requires : goal.load_state-to-requires
load_state-to-requires c =
    let f = c.requires.filled in
    rw c.stored-k.ensures (saved_fits _ _ _ _ _ (some f.stored) f.is)

pub collect_fold_unfolds-requires-clause-locals_value : goal.collect_fold_unfolds-requires-clause-locals_value
collect_fold_unfolds-requires-clause-locals_value c = rw c.local_types.ensures (accepted_locals c.args.fun.now.accepted)

pub collect_fold_unfolds-requires-clause-held_2 : goal.collect_fold_unfolds-requires-clause-held_2
collect_fold_unfolds-requires-clause-held_2 c =
    let v = c.requires.filled in
    rw c.local_types.ensures (v.stored, loaded (goal.at.collect_fold_unfolds-requires-clause-held_2 c).After-load_state-to v.stored v.is)

pub returns-in_err-q-clause-reconciling : goal.returns-in_err-q-clause-reconciling
returns-in_err-q-clause-reconciling c S E v h =
    let at = goal.at.returns-in_err-q-clause-reconciling c in
    let k = at.After-collect_fold_unfolds in
    let r = err_from_is_err_and c.from_residual.result c.from_residual.ensures.1 in
    rw (r.1, r.2) (reconciles_refused (here k) (dashed k S E) c.collect_fold_unfolds.auto.out (told k S E (loaded at.After-load_state-to S v) h) c.in_err-q.was)

pub returns-then-not-visited-clause-reconciling : goal.returns-then-not-visited-clause-reconciling
returns-then-not-visited-clause-reconciling c S E v h =
    let at = goal.at.returns-then-not-visited-clause-reconciling c in
    let k = at.After-collect_fold_unfolds in
    reconciles_over (here k) (dashed k S E) c.collect_fold_unfolds.auto.out (told k S E (loaded at.After-load_state-to S v) h) c.in_ok-q.was c.visited.ensures (rw c.if-not-visited.true c.wait.ensures)

pub returns-else-not-visited-clause-reconciling : goal.returns-else-not-visited-clause-reconciling
returns-else-not-visited-clause-reconciling c S E v h =
    let at = goal.at.returns-else-not-visited-clause-reconciling c in
    let k = at.After-collect_fold_unfolds in
    reconciles_over (here k) (dashed k S E) c.collect_fold_unfolds.auto.out (told k S E (loaded at.After-load_state-to S v) h) c.in_ok-q.was c.visited.ensures (rw c.if-not-visited.false refl)
