pub mod Bots
pub mod Glances
pub mod Runs
pub mod Sight
