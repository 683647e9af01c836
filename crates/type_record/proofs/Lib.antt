-- What the proofs of several functions use, and of the crates above.
pub mod Inside
-- kinds and their numbers
pub mod KindLaws
-- loops that test each number below n
pub mod Turns
mod Ranged
mod Passed
