pub mod Bytes
pub mod RunLemmas
pub mod StepLemmas
