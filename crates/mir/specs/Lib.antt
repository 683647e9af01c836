-- What the contracts of mir cite beside the definitions of model.
pub mod Sizes
pub mod Parts
-- a record among other words
pub mod Framed
