pub mod Asking
pub mod Cutting
pub mod Pieces
pub mod Reading
