-- Examples, each closed by computing. The laws are in the crate laws.
-- what a claim opens, and how its records are written
pub mod Computed
pub mod Build
-- W1 to W14 of document 01; rows that its table leaves out
mod Rows
mod Table
mod Further
-- whole functions: the worked example, matches on an enum and on an element, the refusals, the limits
mod Worked
mod Replays
mod Match
mod Elements
mod Refusals
mod Limits
-- the calls on states
mod States
-- the numbers beside a statement record
mod Numbered
-- two type records
mod Merges
-- lists of MIR statements
mod Assigns
-- crates in one call
mod Crates
-- the refusals of each call, one for each number
mod Numbers
