pub mod Steps
pub mod Meeting
pub mod Settling
pub mod Trailing
pub mod Converging
