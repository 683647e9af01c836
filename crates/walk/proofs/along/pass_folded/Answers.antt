-- `walk::along::pass_folded` meets its contract. The loop's invariant: the walk by types goes on from `fresh` as it did from the start. Assumes nothing.
use mathlib.Core.Path.{◌≡◌, sym, ap}
use mathlib.Core.Logic.{◌≢◌}
use mathlib.Core.List.{List}
use Prim.Native.Nat.{ℕ, ◌<◌, ◌≤◌}
use native.Mathlib.Omega.{arith}
use lib.ListN.{length}
use Rattle.std.specs.Prelude.{Result, Ok}
use Rattle.std.proofs.lemmas.Result.{err_from_is_err_and}
use Rattle.model.specs.Words.{word}
use Rattle.refusal.specs.declared.Refusal.{Refusal}
use Rattle.state.proofs.Fields.{ready_typed}
use Rattle.walk.specs.Site.{Short, extent, led, onward}
use Rattle.walk.specs.declared.step.Fresh.{Fresh}
use Rattle.walk.specs.declared.along.Onward.{Onward}
use Rattle.walk.proofs.Places.{extent_stopped, extent_plain, stopped_before, stopped_here, short_items}
use Rattle.walk.proofs.Sites.{plain_from}
use Rattle.walk.proofs.Turns.{Turn, turn_start, turn_done, turn_refused, turn_more}
use Rattle.walk.proofs.along.pass_folded.Goals as goal

-- at the end of what is walked
led_done : {Γ ops args : List ℕ} {from typ at : ℕ} {f : Fresh} → Turn Γ ops args from (extent ops args) typ f at → (n : ℕ) → n ≡ extent ops args
    → extent ops args ≤ at → ◌≡◌ {A = Result Onward Refusal} (Ok (record { walked = n; fresh = f })) (onward Γ ops args from typ)
led_done {ops = ops} {args} T n e l = rw e (sym (ap (led (extent ops args)) (turn_done T l)))

-- an item that is no index is walked
before : {Γ ops args : List ℕ} {from typ at : ℕ} {f : Fresh} → Short ops args → 1 ≤ from → Turn Γ ops args from (extent ops args) typ f at
    → at < length ops → word ops at ≢ 4 → at < extent ops args
before {ops = ops} {args} S l T = stopped_before (extent_stopped ops args S.is) (omega (arith, T.least)) T.most

pub loop-at-init : goal.loop-at-init
loop-at-init c =
    let a = c.args in
    let l = c.requires.range in
    rw c.folded-fresh.ensures
    (turn_start l.1 c.requires.typ_bound
    (plain_from a.ops.now a.args.now a.from (extent a.ops.now a.args.now) l.0 l.1 (extent_plain a.ops.now a.args.now c.requires.short.is)))

pub returns-then-op-eq-INDEX : goal.returns-then-op-eq-INDEX
returns-then-op-eq-INDEX c =
    let T = c.loop-at.invariant in
    let s = stopped_here (extent_stopped c.args.ops.now c.args.args.now c.requires.short.is) (omega (arith, c.requires.range.0, T.least)) T.most c.if-op-eq-INDEX.true in
    led_done T c.loop-at.at s (omega (arith, s))

pub bounds-args-at : goal.bounds-args-at
bounds-args-at c = omega (arith, short_items c.requires.short)

pub step_folded-requires-clause-added_bound : goal.step_folded-requires-clause-added_bound
step_folded-requires-clause-added_bound c = omega (arith, c.loop-at.invariant.few, short_items c.requires.short)

pub returns-in_err-fresh : goal.returns-in_err-fresh
returns-in_err-fresh c =
    let p = err_from_is_err_and c.from_residual.result c.from_residual.ensures.1 in
    rw (p.1, p.2)
    (ap (led (extent c.args.ops.now c.args.args.now))
    (turn_refused c.loop-at.invariant (before c.requires.short c.requires.range.0 c.loop-at.invariant (omega arith) c.if-op-eq-INDEX.false) (sym c.in_err-fresh.ensures)))

pub loop-at-preserved : goal.loop-at-preserved
loop-at-preserved c =
    turn_more c.loop-at.invariant (before c.requires.short c.requires.range.0 c.loop-at.invariant (omega arith) c.if-op-eq-INDEX.false)
    (ready_typed c.args.types.now.ready) (sym c.in_ok-fresh.ensures)

pub returns : goal.returns
returns c =
    let T = c.loop-at.invariant in
    let most = (extent_stopped c.args.ops.now c.args.args.now c.requires.short.is).most in
    led_done T (length c.args.ops.now) (omega (arith, most, T.most)) (omega (arith, most))
