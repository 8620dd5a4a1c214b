pub mod CallLemmas
pub mod Found
pub mod Gate
pub mod Limits
pub mod Places
pub mod Whole
