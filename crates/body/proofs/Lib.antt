-- What the proofs of several functions use, and of the crates above.
-- a run of items, one item at a time and in two parts
pub mod Runs
-- a block's stations and the entry's uses as runs of items
pub mod Stations
-- the code's results as answers
pub mod Answered
-- what a place used records, as items
pub mod Told
-- what the code leaves of a run
pub mod Passing
-- the items of a place that is used
pub mod Places
-- a place used: one item's run
pub mod Placed
-- variants, and those that are left
pub mod Variants
-- what an arm, or the otherwise target, answers
pub mod Trying
-- the targets of a match, one by one
pub mod Plans
-- the block of a match
pub mod Matches
