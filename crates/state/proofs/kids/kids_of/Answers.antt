-- `state::kids::kids_of` meets its contract: what `Openable` says of a type record that passes. Assumes nothing.
use mathlib.Core.Path.{refl}
use Rattle.model.specs.Types.{kids}
use Rattle.base.specs.Typed.{owner_known, first_fits}
use Rattle.state.proofs.Fields.{ready_typed, ready_sized, ready_counted, fields_open}
use Rattle.state.proofs.kids.kids_of.Goals as goal

pub count_of-requires : goal.count_of-requires
count_of-requires c =
    record {
      t_bound = let p = c.requires in
          rw (c.owner_of-owner.ensures, c.from.ensures) (owner_known (ready_typed c.args.types.now.ready) _ _ p.t_bound p.openable);
    }

pub overflow_sub-result : goal.overflow_sub-result
overflow_sub-result c =
    let p = c.requires in
    rw (c.count_of.ensures, c.first_of-first.ensures, c.owner_of-owner.ensures, c.from.ensures) (first_fits (ready_typed c.args.types.now.ready) _ _ p.t_bound p.openable)

pub returns : goal.returns
unfolding kids
returns c =
    let p = c.requires in
    let g = c.from.ensures in
    rw (c.count_of.ensures, c.first_of-first.ensures, c.owner_of-owner.ensures, c.from.ensures) (record { fields = fields_open (ready_typed c.args.types.now.ready) p.t_bound p.openable; all = refl })
