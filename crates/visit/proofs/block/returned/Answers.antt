-- `visit::block::returned` meets its contract: what the collector puts at the item is told there.
use mathlib.Core.Path.{refl, ap, subst₂}
use Prim.Native.Nat.{ℕ, ◌<◌}
use native.Mathlib.Omega.{arith}
use lib.ListN.{length}
use Rattle.model.specs.Collect.{folds_at_ret}
use Rattle.model.specs.Function.{nargs}
use Rattle.base.specs.Tests.{clash}
use Rattle.base.specs.Function.{length_local_types}
use Rattle.laws.specs.Lifted.{folds_at_ret_dashed}
use Rattle.blocks.proofs.Spots.{formed_accepted}
use Rattle.statements.specs.Kept.{point_of, Puts}
use Rattle.statements.specs.declared.Out.{Out}
use Rattle.collectors.specs.Trail.{lines_of, root}
use Rattle.collect.specs.Answers.{Held}
use Rattle.statements.proofs.Puts.{alike_at, alike_same, counted_alike, puts_alike}
use Rattle.arrival.proofs.Stored.{accepted_locals}
use Rattle.arrival.proofs.Heard.{puts_tells}
use Rattle.visit.proofs.block.returned.Goals as goal

pub collect_folds_at_ret-requires : goal.collect_folds_at_ret-requires
collect_folds_at_ret-requires c =
    let a = c.args in
    let p = c.requires in
    let l = c.local_types.ensures in
    let A = formed_accepted c.args.fun.now.accepted.formed in
    let few : c.nargs.result < length c.local_types.result.now = omega (arith, A.few_args, c.nargs.ensures, ap length l, length_local_types A) in
    let held : Held a.fun.now.types.words.now c.local_types.result.now a.s.now = (p.stated.state, rw l p.stated.holds) in
    record {
      locals_value = rw l (accepted_locals c.args.fun.now.accepted);
      a_in_bounds = few;
      held_in = (a.s.now.nodes, held);
      counted = rw c.at_point.ensures (counted_alike (alike_at _ _) p.counted);
    }

pub returns-then-o : goal.returns-then-o
returns-then-o c = λ E H.
    let a = c.args in
    let p = c.requires in
    let P = c.collect_folds_at_ret.ensures a.s.now.nodes E (rw c.local_types.ensures H) in
    let new = c.collect_folds_at_ret.new.out in
    let Q = subst₂ (λ (k : ℕ) (v : Out). Puts (length (folds_at_ret a.fun.now.types.words.now k E)) a.out.now v new c.collect_folds_at_ret.result (lines_of (point_of v) (root 0) (folds_at_ret a.fun.now.types.words.now k E)))
    c.nargs.ensures c.at_point.ensures P in
    puts_tells a.i (folds_at_ret a.fun.now.types.words.now (nargs a.fun.now.record.words.now) E) (folds_at_ret_dashed a.fun.now.types.words.now (nargs a.fun.now.record.words.now) E) c.if-o.true (c.point_of.ensures a.fun.now.record.words.now c.args.fun.now.accepted.formed.laid.most_items p.i_bound)
    (puts_alike (alike_at _ _) Q)

pub returns : goal.returns
returns c = λ E H. record { told = λ e. clash (cc c.if-o.false); silent = λ e. (refl, alike_same _) }
