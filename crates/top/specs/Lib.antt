pub mod LastLine
pub mod Outcome
pub mod Words
