-- What the contracts of answer cite beside the definitions of model.
pub mod Said
