pub mod Written
pub mod Texts
pub mod Puts
pub mod Newlines
pub mod Ranges
pub mod Telling
