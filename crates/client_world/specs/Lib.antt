pub mod Counted
pub mod IsWorld
pub mod Outcomes
pub mod Peers
pub mod Reading
pub mod Steps
