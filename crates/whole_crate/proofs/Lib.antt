-- Laws that the proofs of whole_crate cite.
-- the tests before the first function
pub mod Beginning
-- the words that are lent to one function
pub mod Parts
-- the functions one after another
pub mod Going
-- what the call answers
pub mod Answering
