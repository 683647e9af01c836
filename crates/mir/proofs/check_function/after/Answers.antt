-- `mir::check_function::after` meets its contract, by the groups of items. Assumes nothing.
use mathlib.Core.Path.{sym}
use native.Mathlib.Omega.{arith}
use Rattle.mir.proofs.Follows.{after_place}
use Rattle.mir.proofs.check_function.after.Goals as goal

pub returns-in-1-to-4 : goal.returns-in-1-to-4
returns-in-1-to-4 c =
    let a = c.args in
    sym (after_place a.before a.op (omega arith) (omega arith))
