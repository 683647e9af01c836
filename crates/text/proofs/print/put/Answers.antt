-- `text::print::put` meets its contract. Assumes nothing.
use Rattle.text.proofs.Writing.{writes_one}
use Rattle.text.proofs.print.put.Goals as goal

pub returns : goal.returns
returns c = writes_one _ _ _ c.requires
