-- What a viewer sees of a split: the common part and, for a seat, its own entry of the players. All other entries are hidden, and so is the secret part.
use Rattle.std.specs.Prelude.{◌≡◌, ℕ, ◌==◌, Bool, false, if◌then◌else◌, Option, Some, None, List, length, map, slice_get}
use Rattle.std.specs.List.{enumerate_from}
use Rattle.secret_strip.specs.declared.split.Split.{Split}
use Rattle.std.specs.Option.{option_map_or}

-- whether a viewer has this seat; a spectator has none
abbrev pub has_seat : Option ℕ → ℕ → Bool
has_seat own seat = option_map_or (λ own. own == seat) own false

-- the entry of a seat as a viewer sees it
abbrev pub seen : {P : Type 0} → Option ℕ → ℕ × Option P → Option P
seen viewer (seat, entry) = if has_seat viewer seat then entry else None

-- the entries of the players as a viewer sees them; there are as many
abbrev pub seen_players : {P : Type 0} → Option ℕ → List (Option P) → List (Option P)
seen_players viewer players = map (seen viewer) (enumerate_from 0 players)

-- a split as a viewer sees it
abbrev pub strip : {C S P : Type 0} → Split C S P → Option ℕ → Split C S P
strip split viewer = record { common = split.common; secret = None; players = seen_players viewer split.players }

-- two splits that a viewer may not tell apart: they have the same common part, as many players, and the same entry at the viewer's seat
pub record SameFor {C S P : Type 0} (viewer : Option ℕ) (a b : Split C S P) : Type 0 where
  pub same_common : a.common ≡ b.common
  pub as_many : length a.players ≡ length b.players
  pub same_own : (seat : ℕ) → viewer ≡ Some seat → slice_get a.players seat ≡ slice_get b.players seat
