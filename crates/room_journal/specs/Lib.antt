pub mod Coming
pub mod Kept
pub mod Laws
