-- What the contracts of queue cite beside the definitions of model.
-- ranks as bits of four words
pub mod Bits
-- the blocks' ranks, and which blocks wait by the bits of their ranks
pub mod Waiting
-- what `insert` and `pop` do to the set of waiting blocks
pub mod Popped
-- sequences of inserts and pops: on the array that the bits replace, and on the bits
pub mod Sequences
