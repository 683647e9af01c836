-- `mir::check_function::place_follows` meets its contract: roots and elements with the rows that they stand behind. Assumes nothing.
use mathlib.Core.Logic.{⊎_elim}
use native.Mathlib.Omega.{arith}
use Rattle.mir.proofs.Follows.{behind, elsewhere, root_rows, element_rows}
use Rattle.mir.proofs.check_function.place_follows.Goals as goal

pub returns-in-0-matches : goal.returns-in-0-matches
returns-in-0-matches c =
    let a = c.args in
    behind root_rows a.before a.next (omega arith, omega arith) c.in-0-matches.is

pub returns-in_default-matches : goal.returns-in_default-matches
returns-in_default-matches c =
    let a = c.args in
    elsewhere root_rows a.before a.next (omega arith, omega arith) (⊎_elim (grind arith) (⊎_elim (grind arith) (grind arith)))

pub returns-in-1 : goal.returns-in-1
returns-in-1 c =
    let a = c.args in
    behind element_rows a.before a.next (omega arith, omega arith) c.in-1.is

pub returns-in_default-matches-2 : goal.returns-in_default-matches-2
returns-in_default-matches-2 c =
    let a = c.args in
    elsewhere element_rows a.before a.next (omega arith, omega arith) (⊎_elim (grind arith) (⊎_elim (grind arith) (grind arith)))
