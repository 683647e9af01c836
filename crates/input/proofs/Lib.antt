-- proofs
pub mod Tested
