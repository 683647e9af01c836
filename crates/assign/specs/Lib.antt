-- What the contracts of assign cite beside the definitions of model, and what holds of what a list gives.
-- the items of an operand
pub mod Operands
-- a list by the words in which it stands
pub mod Words
-- the kinds of statements
pub mod Kinds
-- the tests of a list, as the code makes them
pub mod Checked
-- items put into a lent buffer
pub mod Puts
-- what the call answers
pub mod Answers
-- THE ORDER: the source's clauses, and the one rule that all are: clauses_one
pub mod Clauses
-- WHERE IT CAN STAND: by the order of items, from where a use may begin back to there: given_leads
pub mod Leads
-- so a record that is made of such items is in order: made_ordered, made_passes
pub mod Made
