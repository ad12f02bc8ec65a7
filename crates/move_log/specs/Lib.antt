pub mod KeptAct
pub mod Outline
pub mod Redact
