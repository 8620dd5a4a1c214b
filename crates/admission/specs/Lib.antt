pub mod Admission
pub mod Indexes
pub mod Issues
pub mod Items
