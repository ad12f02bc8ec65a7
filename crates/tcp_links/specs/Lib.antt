pub mod Cuts
pub mod Newlines
