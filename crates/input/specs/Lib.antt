-- specs
pub mod Input
