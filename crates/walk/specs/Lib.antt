-- What the contracts of walk cite beside the definitions of model.
pub mod Frame
pub mod Way
pub mod Fresh
pub mod Site
pub mod Applied
