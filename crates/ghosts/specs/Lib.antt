-- What the contracts of ghosts cite beside the definitions of model.
pub mod Heard
