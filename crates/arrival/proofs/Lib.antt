-- What the proofs of several functions use.
-- what is kept for each block
pub mod Memo
-- a share as a state
pub mod Stored
-- an arrival in the first pass
pub mod Arrived
-- statements at one point
pub mod Lines
-- an arrival in the second pass
pub mod Told
-- the shares of the store
pub mod Shelves
-- what an arrival leaves of them
pub mod Stores
-- what is recorded
pub mod Heard
-- an arrival as a visit
pub mod Arrivals
