-- What the proofs of several functions use, and of the crates above.
mod Moves
pub mod Fields
pub mod Locals
pub mod Finding
pub mod Standing
mod Skipping
pub mod Fronted
