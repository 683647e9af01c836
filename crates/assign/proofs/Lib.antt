-- Laws that the proofs of assign cite.
-- what model reads stands at the list's words
pub mod Reading
-- an operand's items
pub mod Elements
-- where an operand ends
pub mod Ends
-- kinds and their numbers
pub mod KindLaws
-- which statements there are
pub mod Knowing
-- items put in a row
pub mod Putting
-- an operand put whole
pub mod Placing
-- what operands give
pub mod Giving
-- all statements
pub mod Along
-- the record
pub mod Written
-- the tests of a list
pub mod Checking
-- the numbers of its refusals
pub mod Numbers
-- what the call answers
pub mod Answering
