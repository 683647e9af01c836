-- What the proofs of several functions use, and of the crates above.
-- places as items, element by element
pub mod Elements
-- the places of a function record
pub mod Spots
-- places that are the same items
pub mod Same
-- the read that a block's switch matches on
pub mod Points
