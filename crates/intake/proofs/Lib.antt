pub mod Ids
pub mod Numbers
pub mod EventLists
pub mod PlainTexts
pub mod Placing
