-- The laws that the proofs of env share. In the order in which they build on each other:
-- places within their limits, and the states and places that are given
pub mod Limits
-- the walk of a place, and where it has ended
pub mod Walked
-- answers, by what model's are
pub mod Answered
-- states and their codes; a walk in one tree, as a walk in a state
pub mod States
-- how many nodes a walk adds
pub mod Added
-- a walk that has ended, and one step more there
pub mod Lasts
-- what a match on a place is on
pub mod Subjects
-- the projection; a fold carried out is one
pub mod Projecting
pub mod Folding
-- a place used, where its walk has ended
pub mod Uses
-- the calls for users
pub mod Testing
pub mod Called
