pub mod FaultLemmas
pub mod Histories
pub mod Images
mod MemoryFiles
pub mod MemoryMoments
mod MemoryRigSteps
mod Overwritten
mod Pieces
mod Rows
mod Undo
pub mod WrittenLemmas
