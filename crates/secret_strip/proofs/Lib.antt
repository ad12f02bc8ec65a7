pub mod PlayersLemmas
