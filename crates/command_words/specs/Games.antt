-- The bots that words ask for: their game, how many they are, and how many seconds they let pass before they answer.
use Rattle.std.specs.Prelude.{ℕ, List, Bool, ◌&&◌, nat_le, nat_lt, not, if◌then◌else◌, is_some, Option, Some, None, option_map}
use Rattle.any_game.specs.AnyRules.{any_rules, named}
use Rattle.any_game.specs.GameKind.{GameKind}
use Rattle.command_words.specs.Numbers.{number_or}
use Rattle.wire_json.specs.MatchText.{number_from}

-- A match of the game may have so many seats, and they are fewer than the links at once. With bots there are at most 32 links, since the streams
-- of words from 32 on are the bots'.
abbrev pub are_enough : ℕ → GameKind → ℕ → Bool
are_enough links game n = (nat_le (any_rules game).sheet.min_seats n && nat_le n (any_rules game).sheet.max_seats) && nat_lt n links && nat_le links 32

abbrev pub seats_when : ℕ → GameKind → Option ℕ → Option ℕ
seats_when links game None = None
seats_when links game (Some n) = if are_enough links game n then Some n else None

abbrev pub seats_from : ℕ → GameKind → List ℕ → Option ℕ
seats_from links game seats = seats_when links game (number_from seats)

abbrev pub table_from : ℕ → Option GameKind → List ℕ → Option (Option (GameKind × ℕ))
table_from links None seats = None
table_from links (Some game) seats = option_map (λ n. Some (game, n)) (seats_from links game seats)

-- a game and how many bots play it, or neither
abbrev pub bots_from : ℕ → Option (List ℕ) → Option (List ℕ) → Option (Option (GameKind × ℕ))
bots_from links None None = Some None
bots_from links (Some game) (Some seats) = table_from links (named game) seats
bots_from links game seats = None

-- how many seconds a bot lets pass before it answers: none unless they are said, which they are of bots alone
abbrev pub pace_from : Option (List ℕ) → Option (List ℕ) → Option ℕ
pace_from game pace = if not (is_some game) && is_some pace then None else number_or 0 60 0 pace
