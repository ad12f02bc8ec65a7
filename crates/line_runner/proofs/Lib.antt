pub mod Steps
pub mod Moving
pub mod Progress
pub mod Playing
pub mod Underway
pub mod Printing
pub mod RunLaws
pub mod EndLaws
