pub mod Arguments
pub mod Seats
