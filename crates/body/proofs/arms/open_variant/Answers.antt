-- `body::arms::open_variant` meets its contract: by what `downcast` ensures of the place read.
use mathlib.Core.Path.{ap, ◌∙◌}
use Rattle.env.specs.Answers.{granted}
use Rattle.body.proofs.Answered.{answered_done}
use Rattle.body.proofs.Places.{place_range, place_asked, place_there}
use Rattle.body.proofs.arms.open_variant.Goals as goal

pub ops_from-ops-requires : goal.ops_from-ops-requires
ops_from-ops-requires c =
    record {
      range = let p = c.requires in
          let (l, u) = p.used_at in
          place_range c.args.fun.now.accepted l u c.root_before-r.ensures;
    }

pub args_from-args-requires : goal.args_from-args-requires
args_from-args-requires c =
    record {
      range = let p = c.requires in
          let (l, u) = p.used_at in
          place_range c.args.fun.now.accepted l u c.root_before-r.ensures;
    }

pub downcast-requires : goal.downcast-requires
downcast-requires c =
    let p = c.requires in
    let (l, u) = p.used_at in
    place_asked c.args.fun.now.accepted l u c.root_before-r.ensures _ _ _ c.local_types.ensures c.ops_from-ops.ensures c.args_from-args.ensures (record { state = p.opening.state; holds = p.opening.holds })

pub unwrap-requires : goal.unwrap-requires
unwrap-requires c =
    let p = c.requires in
    let (l, u) = p.used_at in
    let M = place_there c.args.fun.now.accepted l u c.root_before-r.ensures _ _ _ c.local_types.ensures c.ops_from-ops.ensures c.args_from-args.ensures c.downcast.ensures p.opening.state p.opening.holds in
    answered_done _ (M.answer ∙ ap granted p.opening.opens)

pub returns : goal.returns
returns c E h D d =
    let p = c.requires in
    let (l, u) = p.used_at in
    let z = c.local_types.ensures in
    rw z at ((place_there c.args.fun.now.accepted l u c.root_before-r.ensures _ _ _ z c.ops_from-ops.ensures c.args_from-args.ensures c.downcast.ensures E h).moved D d)
