-- `memory::set_visited` meets its contract.
use Rattle.arrival.proofs.Memo.{visits}
use Rattle.arrival.proofs.memory.set_visited.Goals as goal

pub returns : goal.returns
returns c =
    visits _ _ c.requires.0
