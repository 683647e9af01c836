-- `statements::numbers::tell_one` meets its contract: a verb's number is stored where there is room. Assumes nothing.
use mathlib.Core.Path.{sym, ap, ◌∙◌}
use native.Mathlib.Omega.{arith}
use lib.ListN.{set}
use lib.Seq.{set_out}
use Rattle.statements.specs.Marked.{number_of}
use Rattle.statements.proofs.Marks.{verb_tells}
use Rattle.statements.proofs.numbers.tell_one.Goals as goal
use Rattle.statements.proofs.numbers.tell_one.Goals.{then-j-told, else-j-told}

pub returns-clause-told_after : goal.returns-clause-told_after
returns-clause-told_after c =
    let a = c.args in
    rw (verb_tells a.op a.mark (omega arith))
    (elim c.if-j-told.branch [
      | then-j-told w ↦ w.told-is ∙ ap (set a.told.now a.j) w.number_of.ensures
      | else-j-told w ↦ w.told-is ∙ sym (set_out a.told.now a.j (number_of a.mark) (omega arith))
    ])
