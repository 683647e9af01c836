-- What the contracts of env cite beside the definitions of model.
pub mod Given
pub mod Tested
pub mod Answers
pub mod There
