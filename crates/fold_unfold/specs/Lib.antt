-- What the contracts of fold_unfold cite beside the definitions of model.
pub mod Runs
pub mod Answers
