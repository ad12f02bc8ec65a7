-- A seat of a match is free or has a player, who has a name that everybody may see and a key that nobody else knows.
use Rattle.std.specs.Prelude.{ℕ, List, Option, slice_get}
use Rattle.std.specs.Option.{option_flatten}

pub record Player : Type 0 where
  -- the bytes of the name
  pub name : List ℕ
  -- the sixteen bytes of the key
  pub key : List ℕ

-- one entry a seat, from seat 0 on
abbrev pub Seats : Type 0
Seats = List (Option Player)

-- who sits at a seat; nobody where there is no such seat
abbrev pub player_at : Seats → ℕ → Option Player
player_at seats seat = option_flatten (slice_get seats seat)
