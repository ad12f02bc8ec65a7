pub mod PartText
pub mod SlotForms
pub mod TableForms
pub mod TextBytes
