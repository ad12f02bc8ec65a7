pub mod Delivering
pub mod WorldPlacing
