pub mod ReplayText
pub mod Replaying
pub mod Showing
