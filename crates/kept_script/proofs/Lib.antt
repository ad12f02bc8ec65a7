pub mod Ends
pub mod Growing
pub mod KeptLines
pub mod Moving
pub mod OneCall
pub mod Opened
pub mod Runs
pub mod Trying
