pub mod Adding
pub mod Loads
pub mod Numbers
pub mod Opening
pub mod Rounds
pub mod Stepping
pub mod Summing
