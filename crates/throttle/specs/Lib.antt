pub mod Inequality
pub mod Places
