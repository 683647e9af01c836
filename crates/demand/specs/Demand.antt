-- Demand 3, whole. Its statement, with the replay and the lists of jumps that it speaks of, is model's Replay.
use Rattle.model.specs.Replay.{Demand3}
use Rattle.demand.specs.Whole.{whole_demand}

-- DEMAND 3
pub demand_3 : Demand3
demand_3 Γ fn nforms nwhats nout c e = whole_demand Γ fn nforms nwhats nout e
