-- `type_record::types::Types::kid_count` meets its contract: the parts from the first on are the children. Assumes nothing.
use mathlib.Core.Path.{ap}
use native.Mathlib.Omega.{arith}
use Rattle.model.specs.Types.{count}
use Rattle.type_record.proofs.Inside.{ok_counted, owner_inside, first_inside, kids_length}
use Rattle.type_record.proofs.types.Types.kid_count.Goals as goal

pub owner_of-u-requires : goal.owner_of-u-requires
owner_of-u-requires c =
    let p = c.requires in
    record { t_bound = p.t_bound; variant_of = p.variant_of }

pub first_of-j-requires : goal.first_of-j-requires
first_of-j-requires c =
    let p = c.requires in record { t_bound = p.t_bound }

pub count_of-requires : goal.count_of-requires
count_of-requires c =
    let p = c.requires in record { t_bound = rw c.owner_of-u.ensures (owner_inside _ c.args.self.now.ready.typed _ _ p.t_bound p.variant_of) }

pub overflow_sub-result : goal.overflow_sub-result
overflow_sub-result c =
    let p = c.requires in
    omega (
      arith,
      first_inside c.args.self.now.words.now c.args.self.now.ready.typed c.args.t c.args.v p.t_bound p.variant_of,
      ap (count c.args.self.now.words.now) c.owner_of-u.ensures,
    )

pub returns : goal.returns
returns c =
    let a = c.args in
    omega (arith, kids_length a.self.now.words.now a.t a.v, ap (count a.self.now.words.now) c.owner_of-u.ensures)
