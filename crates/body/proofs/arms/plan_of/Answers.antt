-- `body::arms::plan_of` meets its contract: by what `matched`, `subject_at` and `try_arms` ensure.
use mathlib.Core.Path.{◌≡◌, refl, sym}
use mathlib.Core.Bool.{true}
use mathlib.Core.List.{List}
use mathlib.Core.Option.{some}
use Prim.Native.Nat.{ℕ, ◌<◌}
use native.Mathlib.Omega.{arith}
use lib.ListN.{get_or-replicate}
use Rattle.std.proofs.lemmas.Result.{err_from_is_err_and}
use Rattle.model.specs.Function.{nitems, nblocks}
use Rattle.model.specs.Block.{uses_place}
use Rattle.blocks.specs.Points.{matched_read}
use Rattle.blocks.proofs.Spots.{block_stop}
use Rattle.blocks.proofs.Points.{matched_holds}
use Rattle.blocks.specs.Accepted.{Accepted}
use Rattle.body.proofs.Places.{place_range, place_asked, place_there}
use Rattle.body.proofs.Plans.{planned_plain, planned_element, planned_walk}
use Rattle.body.proofs.Answered.{same_refused}
use Rattle.body.proofs.Matches.{on_element, on_enum}
use Rattle.body.proofs.arms.plan_of.Goals as goal

-- the read that a block matches on is one of the record's items, and uses a place
reads : {Γ os fn : List ℕ} {b read : ℕ} → Accepted Γ os fn → b < nblocks fn → matched_read fn b ≡ some read → (read < nitems fn) × (uses_place fn read ≡ true)
reads A l k =
    let R = matched_holds A.formed l k in
    (omega (arith, R.high, block_stop A.formed l), R.uses)

pub returns-in_default : goal.returns-in_default
returns-in_default c E h = planned_plain _ _ _ E (sym c.in_default.ensures)

pub root_before-r-requires : goal.root_before-r-requires
root_before-r-requires c =
    record {
      i_bound = let p = c.requires in
          let (l, u) = reads c.args.fun.now.accepted p.b_bound (sym c.in-Some.ensures) in
          omega (arith, l);
    }

pub ops_from-ops-requires : goal.ops_from-ops-requires
ops_from-ops-requires c =
    record {
      range = let p = c.requires in
          let (l, u) = reads c.args.fun.now.accepted p.b_bound (sym c.in-Some.ensures) in
          place_range c.args.fun.now.accepted l u c.root_before-r.ensures;
    }

pub args_from-args-requires : goal.args_from-args-requires
args_from-args-requires c =
    record {
      range = let p = c.requires in
          let (l, u) = reads c.args.fun.now.accepted p.b_bound (sym c.in-Some.ensures) in
          place_range c.args.fun.now.accepted l u c.root_before-r.ensures;
    }

pub subject_at-requires : goal.subject_at-requires
subject_at-requires c =
    let p = c.requires in
    let (l, u) = reads c.args.fun.now.accepted p.b_bound (sym c.in-Some.ensures) in
    let a = place_asked c.args.fun.now.accepted l u c.root_before-r.ensures _ _ _ c.local_types-locals.ensures c.ops_from-ops.ensures c.args_from-args.ensures p.stated in
    (a.0, (a.1.0, (c.args.s.now.nodes, a.1.1)))

pub returns-in_err-subject_at : goal.returns-in_err-subject_at
returns-in_err-subject_at c E h =
    let p = c.requires in
    let k = sym c.in-Some.ensures in
    let (l, u) = reads c.args.fun.now.accepted p.b_bound k in
    let w = place_there c.args.fun.now.accepted l u c.root_before-r.ensures _ _ _ c.local_types-locals.ensures c.ops_from-ops.ensures c.args_from-args.ensures (c.in_err-subject_at.ensures c.args.s.now.nodes) E h in
    let r = err_from_is_err_and c.from_residual.result c.from_residual.ensures.1 in
    rw (r.1, r.2) (planned_walk _ _ _ _ E k (same_refused _ _ w))

pub returns-in-Element : goal.returns-in-Element
returns-in-Element c E h =
    let p = c.requires in
    let k = sym c.in-Some.ensures in
    let (l, u) = reads c.args.fun.now.accepted p.b_bound k in
    let w = place_there c.args.fun.now.accepted l u c.root_before-r.ensures _ _ _ c.local_types-locals.ensures c.ops_from-ops.ensures c.args_from-args.ensures (c.in_ok-subject_at.ensures c.args.s.now.nodes) E h in
    planned_element _ _ _ _ E k (on_element _ (rw c.in-Element.is at w))

pub try_arms-requires-clause-cases : goal.try_arms-requires-clause-cases
try_arms-requires-clause-cases c =
    let p = c.requires in
    let k = sym c.in-Some.ensures in
    let (l, u) = reads c.args.fun.now.accepted p.b_bound k in
    let w = place_there c.args.fun.now.accepted l u c.root_before-r.ensures _ _ _ c.local_types-locals.ensures c.ops_from-ops.ensures c.args_from-args.ensures (c.in_ok-subject_at.ensures c.args.s.now.nodes) in
    record { is = k; enum = λ E h. on_enum _ (rw c.in-Enum.is at (w E h)) }

pub try_arms-requires-clause-blank : goal.try_arms-requires-clause-blank
try_arms-requires-clause-blank c = record { long = refl; zero = λ v l. get_or-replicate 16384 v 0 0 l }
