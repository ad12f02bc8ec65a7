pub mod GatherLemmas
pub mod ListLemmas
pub mod PieceLemmas
pub mod RoundLemmas
pub mod ShuffleLemmas
