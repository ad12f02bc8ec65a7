pub mod History
pub mod Turns
pub mod Plays
