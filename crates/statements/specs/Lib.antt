-- What the contracts of statements cite beside the definitions of model.
pub mod Kept
pub mod Marked
pub mod Points
pub mod Moved
