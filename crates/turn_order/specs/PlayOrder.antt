-- The seats in the order in which they take turns: all of them from 0, or a game's own list where that can be one.
use Rattle.std.specs.Prelude.{ℕ, ◌==◌, ◌||◌, ◌≤◌, ◌<◌, Bool, List, length, nat_lt, nat_le, All, if◌then◌else◌}
use Rattle.std.specs.List.{range_with_len, list_any}

abbrev pub all_seats : ℕ → List ℕ
all_seats seats = range_with_len 0 seats

-- a list can't be the play order where it is empty, longer than 64, or holds a number that is no seat of the match
abbrev pub is_no_order : ℕ → List ℕ → Bool
is_no_order seats given = length given == 0 || nat_lt 64 (length given) || list_any (λ seat. nat_le seats seat) given

-- the play order that a game's own list gives
abbrev pub list_or_all : ℕ → List ℕ → List ℕ
list_or_all seats given = if is_no_order seats given then all_seats seats else given

-- a play order of a match: 1 to 64 entries, each one of its seats
pub record IsPlayOrder (seats : ℕ) (order : List ℕ) : Type 0 where
  pub least : 1 ≤ length order
  pub most : length order ≤ 64
  pub inside : All (λ seat. seat < seats) order
