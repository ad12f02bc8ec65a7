pub mod Bench
pub mod Calls
pub mod Counts
pub mod Freeing
pub mod Hearing
pub mod Left
pub mod OfBooks
