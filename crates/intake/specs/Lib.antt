pub mod Number
pub mod Order
pub mod Places
pub mod Events
pub mod Plain
