-- What the contracts of body cite beside the definitions of model.
pub mod Uses
pub mod Arms
pub mod Tries
