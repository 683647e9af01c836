-- What the contracts cite beside the definitions of model and the parts of mir.
pub mod Points
pub mod Accepted
