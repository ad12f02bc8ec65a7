pub mod Fold
pub mod IsTrail
pub mod Kept
pub mod Moves
pub mod Runs
pub mod StruckList
pub mod Taken
pub mod Wound
