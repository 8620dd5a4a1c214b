pub mod Met
pub mod Places
