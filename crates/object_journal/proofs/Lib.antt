pub mod Opens
pub mod Either
pub mod Scans
pub mod Usable
