pub mod After
pub mod Dates
pub mod Delay
pub mod Found
pub mod Operations
pub mod Ops
pub mod Outcome
