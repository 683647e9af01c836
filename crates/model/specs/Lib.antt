-- What document 01 says, as definitions that compute. In the order in which a reader should meet them:
-- words of a record, and answers
pub mod Words
pub mod Answer
-- the type record and refusal 1
pub mod Types
-- trees of places and their join; trees of one type; the source's own recursion of the join
pub mod Tree
pub mod Typing
pub mod Source
-- state records and refusal 3
pub mod State
-- places, statements and refusal 4
pub mod Place
-- the walk, the projection, the downcast, carrying out
pub mod Walk
-- the three collectors
pub mod Collect
-- the function record and refusal 2; what its items say
pub mod Function
pub mod Block
-- the analysis over any states: a block's visit, rounds, the two passes
pub mod Frame
pub mod Rounds
pub mod Passes
-- over trees: the measure, one block's own run
pub mod Measure
pub mod Body
-- the statement record, and the whole-function call
pub mod Record
pub mod Whole
-- a whole crate in one call
pub mod Crate
-- the calls on states for users
pub mod Calls
-- two type records become one
pub mod Merge
-- MIR statements as they are, and the items that they give
pub mod Assign
-- the replay; what the numbers beside a statement record say
pub mod Replay
pub mod Told
-- the program
pub mod Ghosts
-- what the calls promise beside these equations
pub mod Promised
