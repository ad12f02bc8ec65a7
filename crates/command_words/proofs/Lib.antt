pub mod Describing
pub mod Playing
pub mod Refusals
pub mod Serving
