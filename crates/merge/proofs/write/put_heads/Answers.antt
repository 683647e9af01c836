-- `merge::write::put_heads` meets its contract. Assumes nothing.
use Rattle.base.specs.Typed.{types_typed}
use Rattle.merge.proofs.Putting.{heads_put}
use Rattle.merge.proofs.write.put_heads.Goals as goal

pub returns-clause-out_value : goal.returns-clause-out_value
returns-clause-out_value c =
    let I = c.copy-i.ensures in
    let J = c.copy-j.ensures in
    let K = c.copy-k.ensures in
    heads_put (types_typed c.args.first.now c.requires.first_value) (types_typed c.args.second.now c.requires.second_value) c.args.out.now
    I.out_value I.next J.out_value J.next K.out_value K.next c.copy.ensures.out_value
