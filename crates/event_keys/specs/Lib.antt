pub mod Buckets
pub mod Cells
pub mod Expressions
pub mod Matching
pub mod Reading
