-- `collect::ended` meets its contract: by what `refused` and `finish` ensure.
use Rattle.collect.proofs.Called.{ended_done}
use Rattle.collect.proofs.ended.Goals as goal

pub returns-in-Ok : goal.returns-in-Ok
returns-in-Ok c = λ a b C. ended_done C c.in-Ok.is c.finish.ensures
