-- `mir::check_function::action_follows` meets its contract: each action with the rows that it stands behind. Assumes nothing.
use mathlib.Core.Logic.{⊎_elim}
use native.Mathlib.Omega.{arith}
use Rattle.mir.proofs.Follows.{stands, behind, elsewhere, use_rows, read_rows, note_rows}
use Rattle.mir.proofs.check_function.action_follows.Goals as goal

pub returns-in-1 : goal.returns-in-1
returns-in-1 c =
    let a = c.args in
    behind use_rows a.before a.next (omega arith, omega arith) c.in-1.is

pub returns-in_default-matches : goal.returns-in_default-matches
returns-in_default-matches c =
    let a = c.args in
    elsewhere use_rows a.before a.next (omega arith, omega arith) (⊎_elim (grind arith) (grind arith))

pub returns-in-6 : goal.returns-in-6
returns-in-6 c =
    let a = c.args in
    stands read_rows a.before a.next (omega arith, omega arith)

pub returns-in_default : goal.returns-in_default
returns-in_default c =
    let a = c.args in
    stands note_rows a.before a.next (omega arith, omega arith)
