pub mod Appending
pub mod Composing
pub mod Frames
pub mod FrontOf
pub mod Moments
pub mod One
