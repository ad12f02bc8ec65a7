pub mod Heads
pub mod Heard
pub mod Limits
pub mod Roles
pub mod Said
