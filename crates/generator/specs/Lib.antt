pub mod Inputs
pub mod Session
pub mod Accepted
