-- `whole_crate::begun` meets its contract: its tests are model's, in order.
use mathlib.Core.Path.{sym, ◌∙◌}
use native.Mathlib.Omega.{arith}
use Rattle.whole_crate.proofs.Beginning.{no_words, too_many, bad_types, words_after, all_pass}
use Rattle.whole_crate.proofs.begun.Goals as goal
use Rattle.whole_crate.proofs.begun.Goals.{then-words-eq0-via-then-words-eq0, then-words-eq0-via-else-words-eq0+then-words-gt-MOST_FUNCTIONS}

pub returns-then-words-eq0 : goal.returns-then-words-eq0
returns-then-words-eq0 c = elim c.then-words-eq0.branch [
  | then-words-eq0-via-then-words-eq0 w ↦ no_words w.if-words-eq0.true
  | then-words-eq0-via-else-words-eq0+then-words-gt-MOST_FUNCTIONS w ↦ too_many w.if-words-gt-MOST_FUNCTIONS.true
]

pub returns-then-not-check_types : goal.returns-then-not-check_types
returns-then-not-check_types c = bad_types (omega arith) (omega arith) (sym c.check_types.ensures.answer ∙ c.if-not-check_types.true)

pub returns-then-end-words : goal.returns-then-end-words
returns-then-end-words c =
    words_after (omega arith) (omega arith) (sym c.check_types.ensures.answer ∙ c.if-not-check_types.false) c.records_end-end.ensures (omega arith)

pub returns : goal.returns
returns c =
    all_pass (omega arith) (omega arith) (sym c.check_types.ensures.answer ∙ c.if-not-check_types.false)
    c.records_end-end.ensures (omega arith) (c.check_types.ensures.filled c.if-not-check_types.false)
