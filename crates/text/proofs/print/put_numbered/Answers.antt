-- `text::print::put_numbered` meets its contract: the number is behind the bytes. Assumes nothing.
use Rattle.text.proofs.Writing.{writes_then}
use Rattle.text.proofs.print.put_numbered.Goals as goal

pub returns : goal.returns
returns c =
    writes_then c.put_all-a.ensures c.put_number.ensures
