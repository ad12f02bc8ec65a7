pub mod Benches
pub mod Filling
pub mod Moves
pub mod Replies
pub mod Rooms
pub mod RowTexts
pub mod Running
pub mod ShortTexts
