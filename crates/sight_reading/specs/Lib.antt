pub mod Reading
pub mod CtxReading
pub mod EntryReading
pub mod SnapshotReading
