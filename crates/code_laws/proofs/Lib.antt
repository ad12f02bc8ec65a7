pub mod BoundLaws
pub mod CountLaws
pub mod LimitLemmas
pub mod SheetLaws
pub mod SightLaws
pub mod SlotLaws
pub mod TableLaws
