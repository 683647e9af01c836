-- specs
pub mod Refusal
