-- What the contract of the exported call cites beside the definitions of model.
pub mod Answers
