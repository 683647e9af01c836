-- What the contracts of stream and of the test program cite.
pub mod Filled
