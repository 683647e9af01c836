-- What the proofs of statements share, and of the crates above.
pub mod Puts
pub mod Marks
mod One
mod Ending
