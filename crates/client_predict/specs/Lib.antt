pub mod Prediction
pub mod Shown
pub mod Client
pub mod Acting
pub mod Reading
pub mod Following
pub mod Rollback
pub mod Stack
