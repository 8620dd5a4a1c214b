pub mod Entries
pub mod Starved
