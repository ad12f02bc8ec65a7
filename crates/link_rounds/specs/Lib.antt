pub mod Dealing
pub mod Ends
pub mod Gate
pub mod Places
pub mod Turns
