-- `body::tries::try_variant` meets its contract: by what `can_downcast` ensures of the place read.
use Rattle.body.proofs.Places.{place_range, place_asked, place_there}
use Rattle.body.proofs.tries.try_variant.Goals as goal

pub ops_from-ops-requires : goal.ops_from-ops-requires
ops_from-ops-requires c =
    record {
      range = let p = c.requires in
          let (l, u) = p.used_at in
          place_range c.args.fun.now.accepted l u c.root_before-r.ensures;
    }

pub args_from-args-requires : goal.args_from-args-requires
args_from-args-requires c =
    record {
      range = let p = c.requires in
          let (l, u) = p.used_at in
          place_range c.args.fun.now.accepted l u c.root_before-r.ensures;
    }

pub can_downcast-requires : goal.can_downcast-requires
can_downcast-requires c =
    let p = c.requires in
    let (l, u) = p.used_at in
    place_asked c.args.fun.now.accepted l u c.root_before-r.ensures _ _ _ c.local_types.ensures c.ops_from-ops.ensures c.args_from-args.ensures p.stated

pub returns : goal.returns
returns c =
    let p = c.requires in
    let (l, u) = p.used_at in
    place_there c.args.fun.now.accepted l u c.root_before-r.ensures _ _ _ c.local_types.ensures c.ops_from-ops.ensures c.args_from-args.ensures c.can_downcast.ensures
