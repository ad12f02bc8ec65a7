pub mod Answers
pub mod Describe
pub mod Games
pub mod Numbers
pub mod Options
pub mod Play
pub mod Serve
