-- `walk::apply::variant` meets its contract. Assumes nothing.
use mathlib.Core.Path.{◌≡◌, sym, ap}
use native.Mathlib.Omega.{arith}
use Rattle.model.specs.Block.{elem_of}
use Rattle.walk.specs.Fresh.{variant}
use Rattle.walk.proofs.Items.{elem_cast, variant_other}
use Rattle.walk.proofs.apply.variant.Goals as goal

pub overflow_cast-result : goal.overflow_cast-result
overflow_cast-result c =
    let v : variant (elem_of c.args.op c.args.arg) ≡ c.args.arg = ap variant (elem_cast c.args.op c.args.arg c.if-op-eq-DOWNCAST.true) in
    omega (arith, c.requires)

pub returns-then-op-eq-DOWNCAST : goal.returns-then-op-eq-DOWNCAST
returns-then-op-eq-DOWNCAST c = sym (ap variant (elem_cast c.args.op c.args.arg c.if-op-eq-DOWNCAST.true))

pub returns-else-op-eq-DOWNCAST : goal.returns-else-op-eq-DOWNCAST
returns-else-op-eq-DOWNCAST c = sym (variant_other c.args.op c.args.arg c.if-op-eq-DOWNCAST.false)
