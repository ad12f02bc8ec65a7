pub mod Along
pub mod Benches
pub mod BookCalls
pub mod Freed
pub mod Steps
