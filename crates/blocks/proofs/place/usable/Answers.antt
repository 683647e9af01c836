-- `blocks::place::usable` meets its contract. Assumes nothing.
use mathlib.Core.Path.{◌∙◌}
use native.Mathlib.Omega.{arith}
use Rattle.blocks.proofs.Elements.{spot_ops, spot_usable}
use Rattle.blocks.proofs.place.usable.Goals as goal

pub overflow_sub-result : goal.overflow_sub-result
overflow_sub-result c = omega (arith, spot_ops _ _ c.requires.spot c.requires.is)

pub bounds-ops-ops : goal.bounds-ops-ops
bounds-ops-ops c = omega (arith, spot_ops _ _ c.requires.spot c.requires.is)

pub returns-then-contains : goal.returns-then-contains
returns-then-contains c = λ q is. c.if-contains.true ∙ rw (← c.if-contains.ensures.value) at (spot_usable _ _ q is)

pub returns-else-contains : goal.returns-else-contains
returns-else-contains c = λ q is. rw (← c.if-contains.ensures.value) at (spot_usable _ _ q is)
