-- `walk::apply::distance` meets its contract. Assumes nothing.
use mathlib.Core.Path.{sym, ◌∙◌, ap}
use mathlib.Core.Logic.{◌≢◌}
use native.Mathlib.Numerals.{one-add}
use native.Mathlib.Omega.{arith}
use Rattle.walk.specs.Fresh.{distance}
use Rattle.walk.proofs.Items.{elem_deref, elem_field, distance_other}
use Rattle.walk.proofs.apply.distance.Goals as goal

pub returns-in-1 : goal.returns-in-1
returns-in-1 c =
    let a = c.args in
    sym (ap distance (elem_deref a.op a.arg c.in-1.is))

pub returns-in-2 : goal.returns-in-2
returns-in-2 c =
    let a = c.args in
    one-add a.arg ∙ sym (ap distance (elem_field a.op a.arg c.in-2.is))

pub returns-in_default : goal.returns-in_default
returns-in_default c =
    let a = c.args in
    let p : a.op ≢ 1 = omega arith in
    let q : a.op ≢ 2 = omega arith in
    sym (distance_other a.op a.arg p q)
