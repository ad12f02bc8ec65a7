pub mod Answers
pub mod ByeLine
pub mod Doors
pub mod Faults
pub mod Memory
pub mod MemoryLink
pub mod Pieces
