pub mod Depths
pub mod NameLaws
pub mod Others
pub mod Small
pub mod Texts
