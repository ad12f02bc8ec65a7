pub mod Benches
pub mod Deals
pub mod Returns
pub mod Rounds
pub mod Sittings
pub mod Workers
