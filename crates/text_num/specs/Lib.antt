pub mod Digits
pub mod Duration
pub mod JsonNumber
pub mod Mantissa
pub mod Seen
pub mod Units
