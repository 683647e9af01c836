-- `answer::ghosts` meets its contract: the text is one piece. Assumes nothing.
use mathlib.Core.List.{[], ◌∷◌}
use Rattle.demand.specs.Refused.{ghosts_answered}
use Rattle.answer.proofs.Saying.{read_whole, joined_whole, says_as, printed_whole}
use Rattle.answer.proofs.ghosts.Goals as goal

pub respond-n-requires-clause-ended : goal.respond-n-requires-clause-ended
respond-n-requires-clause-ended c =
    record { pieces = c.args.bytes.now ∷ []; reads = read_whole c.args.bytes.now c.fresh.ensures c.room-words.ensures c.scan_piece-s.ensures c.close-s.ensures }

pub returns-clause-printed : goal.returns-clause-printed
returns-clause-printed c =
    let b = c.args.bytes.now in
    let d = read_whole b c.fresh.ensures c.room-words.ensures c.scan_piece-s.ensures c.close-s.ensures in
    (printed_whole _ (says_as (c.respond-n.ensures.responds (b ∷ []) d) (joined_whole b)) (c.fill.ensures.after (λ y e. e))).0

pub returns-clause-answered : goal.returns-clause-answered
returns-clause-answered c =
    let b = c.args.bytes.now in
    let d = read_whole b c.fresh.ensures c.room-words.ensures c.scan_piece-s.ensures c.close-s.ensures in
    let w = printed_whole _ (says_as (c.respond-n.ensures.responds (b ∷ []) d) (joined_whole b)) (c.fill.ensures.after (λ y e. e)) in
    rw w.1 (ghosts_answered b)
