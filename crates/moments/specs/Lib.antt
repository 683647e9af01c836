-- How a contract speaks of what was lent.
pub mod Lent
