pub mod Ears
pub mod Given
pub mod Hearing
pub mod Hears
pub mod Seen
pub mod Sitting
pub mod Told
