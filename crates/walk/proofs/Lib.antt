-- The laws that the proofs of walk share. In the order in which they build on each other:
-- items and the place that they say; kinds
pub mod Items
pub mod KindTests
-- trees with the place of one node left open
pub mod Frames
-- the walk through open nodes
pub mod Ways
pub mod Stepping
-- the walk by types alone
pub mod Growing
pub mod Grows
-- the whole walk
pub mod Places
pub mod Sites
-- what is written
pub mod Inks
pub mod Turns
-- the end of a walk, for callers
pub mod Ends
-- a walk carried out
pub mod Carrying
