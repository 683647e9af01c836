-- What the contracts cite beside the definitions of model.
pub mod Answers
