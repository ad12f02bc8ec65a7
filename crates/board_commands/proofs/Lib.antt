pub mod Players
pub mod Seated
