pub mod Gathering
pub mod Booking
pub mod Printing
pub mod Created
pub mod OwnPasses
pub mod Watching
