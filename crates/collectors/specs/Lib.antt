-- What the contracts of collectors cite beside the definitions of model.
pub mod Trail
pub mod Gets
