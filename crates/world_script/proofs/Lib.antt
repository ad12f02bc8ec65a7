pub mod Beginning
pub mod LineLaws
pub mod Fitting
pub mod Converging
