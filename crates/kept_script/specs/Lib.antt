pub mod Ending
pub mod Growing
pub mod KeptDoing
pub mod KeptLaws
pub mod KeptPlay
pub mod Moving
pub mod OneRoom
pub mod Tries
