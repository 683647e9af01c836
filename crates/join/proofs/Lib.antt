-- What the proofs of join share.
pub mod Outs
pub mod Settles
pub mod Joins
pub mod Passing
pub mod Joined
pub mod Called
