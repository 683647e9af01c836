-- What the contracts of whole_crate cite beside the definitions of model, and that the call is the calls of each function alone.
-- what the call leaves, and its parts
pub mod Called
-- that it is the calls of each function alone: crate_alone
pub mod Alone
