-- What the contracts cite beside the definitions of model.
pub mod Sizes
pub mod Fresh
pub mod Kinds
