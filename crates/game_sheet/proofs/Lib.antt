pub mod Cut
pub mod Fits
pub mod Passing
pub mod Sharing
pub mod Shorts
