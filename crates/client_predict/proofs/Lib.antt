pub mod Pieces
pub mod Stacks
pub mod Keeping
pub mod Acted
pub mod Rollbacks
