-- What the contracts of collect cite beside the definitions of model.
pub mod Answers
