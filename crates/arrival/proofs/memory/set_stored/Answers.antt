-- `memory::set_stored` meets its contract.
use Rattle.arrival.proofs.Memo.{stores}
use Rattle.arrival.proofs.memory.set_stored.Goals as goal

pub returns : goal.returns
returns c =
    stores _ _ _ c.requires.0
