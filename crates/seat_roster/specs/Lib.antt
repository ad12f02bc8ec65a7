pub mod Name
pub mod Player
pub mod Roster
