-- What the contracts of visit cite beside the definitions of model.
pub mod Ways
pub mod Visits
