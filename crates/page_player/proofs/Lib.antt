pub mod Acted
pub mod Played
pub mod Texts
