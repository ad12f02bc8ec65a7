pub mod Answered
pub mod Held
pub mod Opens
pub mod Requests
