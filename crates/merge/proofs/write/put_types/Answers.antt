-- `merge::write::put_types` meets its contract. The loop's invariant: the parts of the types below t stand there. Assumes nothing.
use native.Mathlib.Omega.{arith}
use Rattle.base.specs.Typed.{types_typed, parts_inside}
use Rattle.merge.proofs.write.put_types.Goals as goal

pub put_parts-q-requires-clause-t_in_bounds : goal.put_parts-q-requires-clause-t_in_bounds
put_parts-q-requires-clause-t_in_bounds c =
    let L = c.loop-t in
    omega (arith, L.invariant.next, parts_inside (types_typed c.args.types.now.words.now c.args.types.now.ready.typed) L.t c.loop-t-test.true, c.requires.types_in_bounds)
