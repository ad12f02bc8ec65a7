pub mod Rooms
pub mod Report
pub mod Ends
