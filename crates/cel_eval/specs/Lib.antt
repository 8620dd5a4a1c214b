pub mod Data
pub mod Equality
pub mod Operations
pub mod Table
pub mod Operands
pub mod Cells
