-- The names by which games are known, in byte order, and for how many seats the game of a name is.
use Rattle.std.specs.Prelude.{ℕ, ◌&&◌, nat_le, Bool, false, List, [], ◌∷◌, Option, codes}
use Rattle.any_game.specs.AnyRules.{any_rules, named}
use Rattle.any_game.specs.GameKind.{GameKind}
use Rattle.std.specs.Option.{option_map_or}

abbrev pub all_names : List (List ℕ)
all_names = codes "blind-bid" ∷ codes "captions" ∷ codes "countdown" ∷ codes "high-hand" ∷ codes "pig" ∷ codes "tic-tac-toe" ∷ []

-- whether there is a game of this name, and it is for so many seats
unfoldable pub may_open : List ℕ → ℕ → Bool
may_open name seats = option_map_or (λ kind. nat_le (any_rules kind).sheet.min_seats seats && nat_le seats (any_rules kind).sheet.max_seats) (named name) false
