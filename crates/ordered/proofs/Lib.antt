pub mod Apart
pub mod Placed
pub mod Sorted
pub mod Listed
pub mod Least
pub mod Kept
pub mod Members
