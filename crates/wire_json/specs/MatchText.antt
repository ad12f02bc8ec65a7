-- The text of a match's name: the room and the serial in decimal, with a dash between.
use Rattle.std.specs.Prelude.{◌≤◌, ◌<◌, ◌^◌, ℕ, List, [], ◌∷◌, ◌++◌, Bool, false, true, not, ◌&&◌, ◌==◌, nat_lt, nat_le, if◌then◌else◌, Option, Some, None, option_and_then}
use Rattle.std.specs.Char.{is_ascii_digit}
use Rattle.std.specs.Fmt.{decimal}
use Rattle.std.specs.List.{list_all, before_first, after_first}
use Rattle.std.specs.Str.Parse.{digits_value}
use Rattle.game_sheet.specs.MatchName.{Name}

abbrev pub match_text : Name → List ℕ
match_text name = decimal name.room ++ 45 ∷ decimal name.serial

-- what every match's name keeps
abbrev pub IsName : Name → Type 0
IsName name = (name.room ≤ 63) × (1 ≤ name.serial) × (name.serial < 2 ^ 64)

-- at least one digit, and no 0 before another
abbrev pub begins_well : List ℕ → Bool
begins_well [] = false
begins_well (c ∷ []) = true
begins_well (c ∷ d ∷ cs) = not (c == 48)

abbrev pub is_decimal : List ℕ → Bool
is_decimal s = begins_well s && list_all is_ascii_digit s

-- the number below 2^64 that the text writes in decimal
unfoldable pub number_from : List ℕ → Option ℕ
number_from s = if is_decimal s && nat_lt (digits_value 10 s) (2 ^ 64) then Some (digits_value 10 s) else None

abbrev pub is_dash : ℕ → Bool
is_dash c = c == 45

abbrev pub name_of : Option ℕ → Option ℕ → Option Name
name_of room serial = option_and_then (λ room. option_and_then (λ serial.
    if nat_le room 63 && nat_le 1 serial then Some (record { room = room; serial = serial }) else None) serial) room

-- the match that the text names
unfoldable pub match_from : List ℕ → Option Name
match_from s = name_of (number_from (before_first is_dash s)) (number_from (after_first is_dash s))
