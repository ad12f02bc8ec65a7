pub mod Dice
pub mod Reading
pub mod Standing
pub mod Strip
pub mod Words
