-- What the proofs of several functions use.
-- the way of blocks entered at once
pub mod Ways
-- model's steps
pub mod Steps
-- a block that is entered
pub mod Entering
-- a block that is left
pub mod Leaving
