pub mod Reading
pub mod Tokens
pub mod Tree
pub mod Trees
