pub mod Bench
pub mod Places
