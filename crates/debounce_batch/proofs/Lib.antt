mod Kept
mod Offers
pub mod Open
mod Over
