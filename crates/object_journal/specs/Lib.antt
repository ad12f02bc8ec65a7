pub mod Keeping
pub mod Opening
pub mod Replaying
pub mod Stopping
