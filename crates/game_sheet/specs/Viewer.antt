-- Who a session is for: the player of a seat, who has shown the seat's key, or a spectator.
use Rattle.std.specs.Prelude.{ℕ, List, Option, option_map}

abbrev pub Viewer : Type 0
Viewer = Option (ℕ × List ℕ)

-- the seat that looks; none for a spectator
abbrev pub seat_of : Viewer → Option ℕ
seat_of viewer = option_map (λ claim. claim.0) viewer
