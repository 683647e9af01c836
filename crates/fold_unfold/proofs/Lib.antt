-- What the proofs of the functions share.
-- THE TESTS
-- the tests before the passes, as model has them
pub mod Tested
-- A PASS
-- a visit and an opening over the memory, as model's passes take them in
pub mod Absorbed
-- a pass over the memory is model's
pub mod Passed
-- one round of a pass: it unfolds, and a number falls
pub mod Rounds
-- that number, read from the arrays
pub mod Weight
-- the memory with which a pass begins, in the arrays
pub mod Begun
-- the arrays change as the memory does
pub mod Changed
-- a pass between two turns
pub mod Going
-- the share of a stored state
pub mod Loaded
-- the opening of a pass
pub mod Opening
-- BOTH PASSES
-- what they leave in the store
pub mod Stocked
-- the second behind the first
pub mod Both
-- the whole call's answer, with its marks
pub mod Answered
-- and with its numbers
pub mod Numbers
