-- What the contracts of arrival cite beside the definitions of model.
pub mod Memory
pub mod Shares
-- one arrival in its share
pub mod Arrivals
-- an arrival in a visit
pub mod Visits
