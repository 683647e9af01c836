-- Laws that the proofs of merge cite.
-- what the tests say, and the sizes
pub mod Sized
-- words written one behind the other
pub mod Putting
-- what the call answers
pub mod Answering
