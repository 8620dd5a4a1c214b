pub mod Elements
pub mod Keyed
pub mod Stored
pub mod Texts
