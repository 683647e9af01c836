-- Laws that the proofs of collectors cite, and those of its callers.
pub mod Trails
pub mod Lines
pub mod Telling
pub mod Shut
pub mod Standing
pub mod Reading
pub mod Opens
pub mod Leads
pub mod Owes
