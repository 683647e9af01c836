-- `body::items::use_place` meets its contract: its items are the place, and what is recorded is what the projection says.
use mathlib.Core.Path.{◌≡◌, ap, ◌∙◌}
use mathlib.Core.Bool.{Bool}
use mathlib.Core.List.{List}
use Prim.Native.Nat.{ℕ, ◌≤◌, ◌<◌}
use native.Mathlib.Omega.{arith}
use lib.ListN.{length}
use Rattle.std.proofs.lemmas.Result.{err_from_is_err_and}
use Rattle.model.specs.Block.{entry_point}
use Rattle.model.specs.Record.{point_entry}
use Rattle.statements.specs.Kept.{at_point, Alike, point_of}
use Rattle.statements.specs.declared.Out.{Out}
use Rattle.statements.specs.declared.Point.{Point}
use Rattle.statements.proofs.Puts.{alike_at, counted_alike}
use Rattle.blocks.proofs.Elements.{spot_args}
use Rattle.blocks.proofs.Spots.{ops_long}
use Rattle.statements.specs.Points.{point, Points}
use Rattle.model.specs.Function.{nitems}
use Rattle.body.proofs.Places.{place_range, place_spot, place_asked}
use Rattle.body.proofs.Passing.{passes_alike}
use Rattle.body.proofs.Placed.{placed_short, placed_small, placed_refused, placed_nothing, placed_fold, placed_unfold}
use Rattle.body.proofs.items.use_place.Goals as goal

-- what is set to a point is as it was
alike_set : {o r : Out} {p : Point} → r ≡ at_point o p → Alike o r
alike_set {o} {p = p} e = rw e (alike_at o p)

-- the point is the item's, or the entry's
pointed : (fn : List ℕ) (i : ℕ) (entry : Bool) (o : Out) {r : Out} {p : Point} → r ≡ at_point o p → Points i entry p → nitems fn ≤ 16384 → i < nitems fn
    → point_of r ≡ point_entry (entry_point fn) (point fn entry i)
pointed fn i entry o e P m l = ap point_of e ∙ P fn m l

pub ops_from-ops-requires : goal.ops_from-ops-requires
ops_from-ops-requires c = record { range = let p = c.requires in place_range c.args.fun.now.accepted p.i_bound p.i_value c.root_before-root.ensures }

pub args_from-args-requires : goal.args_from-args-requires
args_from-args-requires c = record { range = let p = c.requires in place_range c.args.fun.now.accepted p.i_bound p.i_value c.root_before-root.ensures }

pub projection-requires : goal.projection-requires
projection-requires c =
    let p = c.requires in
    place_asked c.args.fun.now.accepted p.i_bound p.i_value c.root_before-root.ensures _ _ _ c.local_types.ensures c.ops_from-ops.ensures c.args_from-args.ensures p.stated

pub tell-requires-clause-both_long : goal.tell-requires-clause-both_long
tell-requires-clause-both_long c =
    let p = c.requires in
    let k = spot_args _ _ _ (place_spot c.args.fun.now.accepted p.i_bound p.i_value c.root_before-root.ensures _ _ _ c.local_types.ensures c.ops_from-ops.ensures c.args_from-args.ensures) in
    (omega arith, omega arith)

pub overflow_add-n : goal.overflow_add-n
overflow_add-n c =
    let p = c.requires in
    let A = c.args.fun.now.accepted in
    let s = placed_short A c.args.i p.i_bound p.i_value c.root_before-root.ensures _ _ _ c.local_types.ensures c.ops_from-ops.ensures c.args_from-args.ensures p.stated.holds c.in_ok-r.ensures c.in-Unfold.is in
    let (low, high) = place_range A p.i_bound p.i_value c.root_before-root.ensures in
    omega (arith, s.0, ap length c.ops_from-ops.ensures ∙ ops_long A.formed.laid _ c.args.i low high, A.formed.laid.most_items)

pub tell-requires-in-Unfold-clause-both_long : goal.tell-requires-in-Unfold-clause-both_long
tell-requires-in-Unfold-clause-both_long c =
    let p = c.requires in
    placed_short c.args.fun.now.accepted c.args.i p.i_bound p.i_value c.root_before-root.ensures _ _ _ c.local_types.ensures c.ops_from-ops.ensures c.args_from-args.ensures p.stated.holds c.in_ok-r.ensures c.in-Unfold.is

pub tell-requires-in-Unfold-clause-number_bound : goal.tell-requires-in-Unfold-clause-number_bound
tell-requires-in-Unfold-clause-number_bound c =
    let p = c.requires in
    placed_small c.args.fun.now.accepted c.args.i p.i_bound p.i_value c.root_before-root.ensures _ _ _ c.local_types.ensures c.ops_from-ops.ensures c.args_from-args.ensures p.stated.holds c.in_ok-r.ensures

pub returns-in_err-r : goal.returns-in_err-r
returns-in_err-r c E h =
    let p = c.requires in
    let r = err_from_is_err_and c.from_residual.result c.from_residual.ensures.1 in
    rw (r.1, r.2) (passes_alike
    (placed_refused c.args.fun.now.accepted c.args.i p.i_bound p.i_value c.root_before-root.ensures _ _ _ c.local_types.ensures c.ops_from-ops.ensures c.args_from-args.ensures h c.in_err-r.ensures c.args.entry)
    (alike_set c.at_point-p.ensures))

pub returns-in-Nothing : goal.returns-in-Nothing
returns-in-Nothing c E h =
    let p = c.requires in
    let s = alike_set c.at_point-p.ensures in
    passes_alike
    (placed_nothing c.args.fun.now.accepted c.args.i p.i_bound p.i_value c.root_before-root.ensures _ _ _ c.local_types.ensures c.ops_from-ops.ensures c.args_from-args.ensures h c.in_ok-r.ensures c.args.entry c.in-Nothing.is (counted_alike s p.counted))
    s

pub returns-in-Fold : goal.returns-in-Fold
returns-in-Fold c E h =
    let p = c.requires in
    let at = pointed c.args.fun.now.record.words.now c.args.i c.args.entry c.args.o c.at_point-p.ensures c.point_of.ensures c.args.fun.now.accepted.formed.laid.most_items p.i_bound in
    passes_alike
    (placed_fold c.args.fun.now.accepted c.args.i p.i_bound p.i_value c.root_before-root.ensures _ _ _ c.local_types.ensures c.ops_from-ops.ensures c.args_from-args.ensures h c.in_ok-r.ensures c.args.entry at c.in-Fold.is c.tell.ensures)
    (alike_set c.at_point-p.ensures)

pub returns-in-Unfold : goal.returns-in-Unfold
returns-in-Unfold c E h =
    let p = c.requires in
    let at = pointed c.args.fun.now.record.words.now c.args.i c.args.entry c.args.o c.at_point-p.ensures c.point_of.ensures c.args.fun.now.accepted.formed.laid.most_items p.i_bound in
    passes_alike
    (placed_unfold c.args.fun.now.accepted c.args.i p.i_bound p.i_value c.root_before-root.ensures _ _ _ c.local_types.ensures c.ops_from-ops.ensures c.args_from-args.ensures h c.in_ok-r.ensures c.args.entry at c.in-Unfold.is c.tell-in-Unfold.ensures)
    (alike_set c.at_point-p.ensures)
