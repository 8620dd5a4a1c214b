pub mod Beside
pub mod Entries
pub mod Named
