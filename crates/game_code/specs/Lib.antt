pub mod Meaning
pub mod Runs
pub mod Setting
pub mod Wishes
