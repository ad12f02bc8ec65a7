pub mod ChangesOf
pub mod Kept
