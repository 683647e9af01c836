-- `type_record::record::Listed::word_at` meets its contract: the sum that it makes lies inside the record. Assumes nothing.
use native.Mathlib.Omega.{arith}
use Rattle.type_record.proofs.Inside.{part_inside}
use Rattle.type_record.proofs.record.Listed.word_at.Goals as goal

pub overflow_add-result-4 : goal.overflow_add-result-4
overflow_add-result-4 c =
    let p = c.requires in
    omega (arith, part_inside c.args.self.now.counted c.args.t c.args.j p.t_bound p.j_bound, c.args.self.now.offsets.right c.args.t p.t_bound)

pub offset_bounds-self-n : goal.offset_bounds-self-n
offset_bounds-self-n c =
    let p = c.requires in
    omega (arith, part_inside c.args.self.now.counted c.args.t c.args.j p.t_bound p.j_bound, c.args.self.now.offsets.right c.args.t p.t_bound)

pub bounds-self-n : goal.bounds-self-n
bounds-self-n c =
    let p = c.requires in
    omega (arith, part_inside c.args.self.now.counted c.args.t c.args.j p.t_bound p.j_bound, c.args.self.now.offsets.right c.args.t p.t_bound)
