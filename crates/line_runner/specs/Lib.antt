pub mod ScriptLines
pub mod Reader
pub mod Reading
pub mod Play
pub mod Running
pub mod Process
