pub mod Frames
pub mod Pages
pub mod Peers
pub mod Refusals
