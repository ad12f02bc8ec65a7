pub mod CountdownLaws
pub mod PigLaws
pub mod TicTacToeLaws
