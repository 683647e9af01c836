-- What the contracts of state cite beside the definitions of model and the windows of records.
pub mod Value
pub mod Found
pub mod Spliced
pub mod Share
pub mod Kids
pub mod Checked
-- what every function of a run asks of its records and its state
pub mod Given
