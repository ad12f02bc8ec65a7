pub mod Enough
pub mod MapLaws
pub mod MapsFit
pub mod Plans
pub mod Puts
pub mod Rising
pub mod Shown
pub mod Sounds
