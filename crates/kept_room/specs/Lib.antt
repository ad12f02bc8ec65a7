pub mod Anew
pub mod Asides
pub mod Hosting
pub mod Journal
pub mod Opened
