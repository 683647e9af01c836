-- `answer::answer_words` meets its contract: where the records part, and whether words are left over. Assumes nothing.
use mathlib.Core.Path.{◌∙◌}
use native.Mathlib.Omega.{arith}
use Rattle.answer.proofs.Answering.{spare_text, records_text}
use Rattle.answer.proofs.Saying.{refuses_says, says_as}
use Rattle.answer.proofs.answer_words.Goals as goal

pub returns-then-function_length-fun : goal.returns-then-function_length-fun
returns-then-function_length-fun c =
    refuses_says (rw c.from.ensures at c.print_refusal.ensures)
    (spare_text _ _ (c.split_at.ensures.back ∙ c.function_start.ensures.function) (omega (arith, c.function_length.ensures)))

pub returns : goal.returns
returns c =
    let p = c.split_at.ensures in
    says_as (rw (p.front ∙ c.function_start.ensures.types) at c.answer_records.ensures)
    (records_text _ _ (p.back ∙ c.function_start.ensures.function) (omega (arith, c.function_length.ensures)))
