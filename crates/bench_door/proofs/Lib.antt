pub mod Reversed
