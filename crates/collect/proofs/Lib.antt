-- Laws that several proofs of collect cite.
pub mod Passing
pub mod Collected
pub mod Called
pub mod Promised
