-- Laws that the proofs of mir cite, over plain values.
-- which item may follow which, and what then stands before the next
pub mod Follows
-- the test of the sizes, as the facts that it tests
pub mod Sizes
-- what `all` over a slice answers
pub mod Each
-- one turn of the walk over the items
pub mod Turns
