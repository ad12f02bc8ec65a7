pub mod Asked
pub mod Seeing
pub mod Told
