pub mod ItemLemmas
pub mod LoopLemmas
pub mod PlainLemmas
pub mod QuotientLemmas
pub mod StandsLemmas
pub mod ListLemmas
pub mod TextLemmas
mod Rows
mod JoinLemmas
