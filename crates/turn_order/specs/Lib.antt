pub mod PlayOrder
pub mod Position
