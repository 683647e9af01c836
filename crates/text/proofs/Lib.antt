-- What the proofs of several functions use.
-- reading
mod Stepped
-- printing
mod Writing
mod Entries
pub mod Lines
