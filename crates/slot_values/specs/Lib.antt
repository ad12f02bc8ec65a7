pub mod Operators
pub mod Spans
pub mod Values
