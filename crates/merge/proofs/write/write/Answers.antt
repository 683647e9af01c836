-- `merge::write::write` meets its contract. Assumes nothing.
use Rattle.base.specs.Typed.{types_typed}
use Rattle.merge.proofs.Putting.{merged_put}
use Rattle.merge.proofs.write.write.Goals as goal

pub returns : goal.returns
returns c =
    let h = c.put_heads-i.ensures in
    merged_put (types_typed c.args.first.now c.requires.first_value) c.args.second.now.words.now c.args.out.now
    c.put_sizes.ensures h.out_value h.next c.copy-j.ensures.out_value c.copy-j.ensures.next c.put_types.ensures
