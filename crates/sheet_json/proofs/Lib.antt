pub mod Writing
pub mod Counting
pub mod ArgumentLaws
pub mod SeatLaws
pub mod EventLaws
