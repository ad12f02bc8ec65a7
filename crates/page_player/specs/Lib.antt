pub mod PageLines
pub mod Drawing
pub mod Page
pub mod PageLaws
