pub mod Anew
pub mod Given
pub mod Opened
pub mod Kept
pub mod Refused
