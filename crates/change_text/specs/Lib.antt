pub mod Payload
pub mod Reading
