pub mod EndsTurn
pub mod FrameFits
