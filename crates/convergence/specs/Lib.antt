pub mod Calls
pub mod Grounded
pub mod Lines
pub mod Seeing
pub mod Doing
pub mod Shallow
