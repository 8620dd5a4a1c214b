pub mod Body
pub mod Head
pub mod Query
