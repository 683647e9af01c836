-- `answer::respond` meets its contract: a text that is refused, or its words. Assumes nothing.
use mathlib.Core.Path.{sym, ◌∙◌}
use native.Mathlib.Omega.{arith}
use lib.Seq.{length-take-le}
use Rattle.text.specs.Pieces.{pieces_few}
use Rattle.answer.proofs.Answering.{answered}
use Rattle.answer.proofs.Saying.{said_of, refusal_said, words_said, refuses_says, says_as}
use Rattle.answer.proofs.respond.Goals as goal

pub slice_bounds-answer_words-end : goal.slice_bounds-answer_words-end
slice_bounds-answer_words-end c =
    let p = c.requires.ended in
    sym (length-take-le _ _ (omega (arith, pieces_few p.pieces _ _ (rw c.in-Some.is at p.reads), p.reads.room)))

pub returns-in-Some-clause-responds : goal.returns-in-Some-clause-responds
returns-in-Some-clause-responds c ps h = says_as c.answer_words.ensures (sym (words_said _ _ _ c.in-Some.is) ∙ said_of ps h)

pub returns-in-Some-clause-answered : goal.returns-in-Some-clause-answered
returns-in-Some-clause-answered c =
    answered c.requires.ended (λ ps h. says_as c.answer_words.ensures (sym (words_said _ _ _ c.in-Some.is) ∙ said_of ps h))

pub returns-in-None-clause-responds : goal.returns-in-None-clause-responds
returns-in-None-clause-responds c ps h = refuses_says (rw c.from.ensures at c.print_refusal.ensures) (sym (refusal_said _ _ c.in-None.is) ∙ said_of ps h)

pub returns-in-None-clause-answered : goal.returns-in-None-clause-answered
returns-in-None-clause-answered c =
    answered c.requires.ended (λ ps h. refuses_says (rw c.from.ensures at c.print_refusal.ensures) (sym (refusal_said _ _ c.in-None.is) ∙ said_of ps h))
