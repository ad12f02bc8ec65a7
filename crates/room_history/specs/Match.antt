-- A match: its game, seats, seed and serial, what it began with, its accepted actions, the latest first, and who sits at its seats.
use Rattle.std.specs.Prelude.{ℕ, List, length}
use Rattle.game_trait.specs.Rules.{Rules}
use Rattle.phase_flow.specs.Reached.{Reached}
use Rattle.reducer.specs.Accepted.{Accepted}
use Rattle.seat_roster.specs.Player.{Seats}
use Rattle.reducer.specs.Fold.{fold}

pub record Match (X G : Type 0) : Type 0 where
  pub game : X
  pub seats : ℕ
  pub seed : List ℕ
  pub serial : ℕ
  pub first : Reached G
  pub accepted : List Accepted
  pub roster : Seats

module _ {X G : Type 0} (rules : X → Rules G) where
  -- the table that the match has come to
  abbrev pub table_of : Match X G → Reached G
  table_of m = fold (rules m.game) m.first m.accepted

-- the state number: the count of accepted actions
abbrev pub number_of : {X G : Type 0} → Match X G → ℕ
number_of m = length m.accepted
