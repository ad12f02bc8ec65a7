pub mod Forms
pub mod StepIs
pub mod Printing
pub mod Pieces
pub mod ScriptDoing
