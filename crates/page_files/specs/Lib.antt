pub mod Forms
pub mod Heads
pub mod Pages
