pub mod Anew
pub mod Closing
pub mod Crossing
pub mod Hosting
pub mod Jobs
pub mod Since
pub mod Sound
