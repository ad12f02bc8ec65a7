pub mod ShuffleLemmas
pub mod StripLemmas
pub mod WordsLemmas
