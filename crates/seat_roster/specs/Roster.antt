-- What each call makes of the seats of a match, or the first rule that it breaks: a free seat is joined under a name and
-- with a key, and that key alone gives the player another name or frees the seat.
use Rattle.std.specs.Prelude.{ℕ, Bool, false, List, Option, None, Some, Result, Ok, Err, option_map, is_none, map, replicate, slice_get, slice_set, if◌then◌else◌, bytes_eq}
use Rattle.std.specs.Option.{option_map_or}
use Rattle.std.specs.List.{list_all, enumerate_from}
use Rattle.seat_roster.specs.Name.{is_name}
use Rattle.seat_roster.specs.Player.{Player, Seats, player_at}
use Rattle.seat_roster.specs.declared.refusal.RosterNo.{RosterNo}
use Rattle.seat_roster.specs.declared.refusal.RosterNo.TheVariants.{NoSeat, SeatTaken, BadName, Unauthorized}

-- a match begins with nobody
abbrev pub free_seats : ℕ → Seats
free_seats count = replicate count None

-- the seats after a call that wants a free seat, by what is found there
abbrev pub if_free : Option (Option Player) → Result Seats RosterNo → Result Seats RosterNo
if_free found after = option_map_or (λ place. option_map_or (λ player. Err SeatTaken) place after) found (Err NoSeat)

-- the seats after a call that wants the key of the player who sits there
abbrev pub if_key_of : Option Player → List ℕ → (Player → Result Seats RosterNo) → Result Seats RosterNo
if_key_of None key after = Err NoSeat
if_key_of (Some player) key after = if bytes_eq player.key key then after player else Err Unauthorized

-- the seats after a call that wants a name
abbrev pub if_name : List ℕ → Seats → Result Seats RosterNo
if_name name after = if is_name name then Ok after else Err BadName

abbrev pub join : Seats → ℕ → List ℕ → List ℕ → Result Seats RosterNo
join seats seat name key = if_free (slice_get seats seat) (if_name name (slice_set seats seat (Some (record { name = name; key = key }))))

abbrev pub rename : Seats → ℕ → List ℕ → List ℕ → Result Seats RosterNo
rename seats seat key name = if_key_of (player_at seats seat) key (λ player. if_name name (slice_set seats seat (Some (record player { name = name }))))

abbrev pub leave : Seats → ℕ → List ℕ → Result Seats RosterNo
leave seats seat key = if_key_of (player_at seats seat) key (λ player. Ok (slice_set seats seat None))

-- whether a key is that of the player at a seat
abbrev pub key_fits : Seats → ℕ → List ℕ → Bool
key_fits seats seat key = option_map_or (λ player. bytes_eq player.key key) (player_at seats seat) false

abbrev pub row_of : ℕ × Option Player → ℕ × Option (List ℕ)
row_of place = (place.0, option_map (λ (player : Player). player.name) place.1)

-- what everybody may see: each seat with its player's name, in the order of seats
abbrev pub public_rows : Seats → List (ℕ × Option (List ℕ))
public_rows seats = map row_of (enumerate_from 0 seats)

-- nobody sits at the match
abbrev pub is_empty : Seats → Bool
is_empty seats = list_all (λ place. is_none place) seats
