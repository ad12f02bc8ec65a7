pub mod Canonical
pub mod Names
pub mod Steps
pub mod Fields
pub mod Lines
pub mod DataCode
pub mod Writable
