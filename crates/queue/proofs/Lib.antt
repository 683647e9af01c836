-- The laws of queue that its functions' proofs, other crates and a reader cite.
-- bits of a word, and of the words of a set
mod Bits
-- each rank is some block's
mod Ranks
-- the set of waiting blocks, as the bits change
pub mod Waiting
-- every sequence of inserts and pops has the answers that the array gave: `same_answers`
pub mod Sequences
-- some of them computed
mod Examples
