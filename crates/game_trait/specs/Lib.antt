pub mod Deed
pub mod Gives
pub mod InSheet
pub mod Lawful
pub mod Offers
pub mod Queues
pub mod Rules
