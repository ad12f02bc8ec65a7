pub mod NoFloat
pub mod Depths
pub mod Objects
pub mod MemberPut
pub mod Changes
pub mod ShownPlain
pub mod RisingRows
pub mod SeenText
