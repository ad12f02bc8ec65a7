pub mod FormLaws
pub mod Moves
