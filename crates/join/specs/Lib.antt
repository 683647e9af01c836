-- What the contracts of join cite beside the definitions of model.
pub mod Ends
pub mod Answers
