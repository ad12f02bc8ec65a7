pub mod Board
pub mod StateForms
pub mod Countdown
pub mod Pig
pub mod Points
pub mod TicTacToe
