pub mod ActForms
pub mod BackLaws
