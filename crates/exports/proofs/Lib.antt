-- What the proofs of the exported calls cite.
pub mod Answered
