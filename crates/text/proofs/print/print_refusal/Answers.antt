-- `text::print::print_refusal` meets its contract: `refused ` and the number, then a newline. Assumes nothing.
use native.Mathlib.Omega.{arith}
use Rattle.model.specs.Ghosts.{answer_text}
use Rattle.records.specs.Digits.{length_number}
use Rattle.text.proofs.Writing.{writes_then}
use Rattle.text.proofs.print.print_refusal.Goals as goal

pub returns : goal.returns
unfolding answer_text
returns c =
    let w = c.put_numbered-a.ensures in
    let v = c.put.ensures in
    let h = writes_then w v in
    record { long = h.long; said = h.front; inside = omega (arith, length_number c.args.r, w.end, v.end, c.requires) }
