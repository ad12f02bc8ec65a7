pub mod KeptLemmas
pub mod SeenLemmas
