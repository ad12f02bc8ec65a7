pub mod Acting
pub mod Adding
pub mod Made
pub mod Steps
pub mod Opened
