-- The lines of a world in form, and what they ask for. Words are parted by exactly one blank, and numbers are decimal, without sign and
-- without leading zeros. Empty lines and lines that begin with # ask for nothing. An act stands at its line's end, and may hold blanks.
use Rattle.std.specs.Prelude.{ℕ, ◌==◌, nat_le, Bool, true, false, if◌then◌else◌, List, [], ◌∷◌, length, bytes_eq, codes, Option, Some, None, option_map, option_and_then, Result, Ok, Err}
use Rattle.std.specs.List.{before_first, after_first, position_or_len}
use Rattle.std.specs.Str.{is_utf8}
use Rattle.serde_json.specs.Data.{Members, object}
use Rattle.json_tree.specs.Lines.{text_read}
use Rattle.json_tree.specs.declared.lines.LineFault.{LineFault}
use Rattle.game_sheet.specs.MatchName.{Name}
use Rattle.any_game.specs.AnyRules.{any_rules, named}
use Rattle.any_game.specs.GameKind.{GameKind}
use Rattle.room_history.specs.Reply.{seats_fit}
use Rattle.wire_json.specs.Acts.{asked_in}
use Rattle.wire_json.specs.KeyText.{lower_hex}
use Rattle.wire_json.specs.MatchText.{match_from, number_from}
use Rattle.wire_json.specs.declared.asked.Asked.{Asked}
use Rattle.wire_json.specs.declared.asked.Asked.TheVariants.{Move, Event}
use Rattle.wire_json.specs.declared.asked.AskedTo.TheVariants.{Name as Named}
use Rattle.wire_json.specs.declared.protocol.Protocol.{Protocol}
use Rattle.wire_json.specs.declared.protocol.Protocol.TheVariants.{One, Two}
use Rattle.world_history.specs.World.{Step, Nothing, Seeds, Opens, Attaches, Acts, Arrives, Takes, Reads, Drops, Leaves, Shows}
use Rattle.std.specs.Option.{option_map_or}

abbrev pub is_blank : ℕ → Bool
is_blank b = b == 32

-- what stands before and after the first blank
abbrev pub cut : List ℕ → Option (List ℕ × List ℕ)
cut text = if position_or_len is_blank text == length text then None else Some (before_first is_blank text, after_first is_blank text)

abbrev pub at_most : ℕ → ℕ → Option ℕ
at_most most n = if nat_le n most then Some n else None

abbrev pub client_in : List ℕ → Option ℕ
client_in word = option_and_then (at_most 31) (number_from word)

abbrev pub seat_in : List ℕ → Option ℕ
seat_in word = option_and_then (at_most 255) (number_from word)

-- the seat that looks, or a dash for a spectator
abbrev pub looker_in : List ℕ → Option (Option ℕ)
looker_in word = if bytes_eq word (codes "-") then Some None else option_map Some (seat_in word)

-- ---- an open: a game that there is, and a number of seats that it allows

unfoldable pub is_played : ℕ → Option GameKind → Bool
is_played seats named = option_map_or (λ kind. seats_fit (any_rules kind).sheet seats) named false

abbrev pub opening_of : List ℕ → ℕ → Option (Step GameKind)
opening_of game seats = if is_played seats (named game) then Some (Opens game seats) else None

abbrev pub opening : List ℕ → Option (Step GameKind)
opening rest = option_and_then (λ p. option_and_then (opening_of p.0) (seat_in p.1)) (cut rest)

-- ---- an attach: a client, its game, the match, who looks, and 2 behind it for the second protocol

abbrev pub looking_in : Protocol → List ℕ → Option (Option ℕ × Protocol)
looking_in protocol word = option_map (λ seat. (seat, protocol)) (looker_in word)

abbrev pub looking : List ℕ → Option (Option ℕ × Protocol)
looking rest = option_map_or (λ p. if bytes_eq p.1 (codes "2") then looking_in Two p.0 else None) (cut rest) (looking_in One rest)

abbrev pub claim_in : List ℕ → Option (Name × Option ℕ × Protocol)
claim_in rest = option_and_then (λ p. option_and_then (λ name. option_map (λ l. (name, l.0, l.1)) (looking p.1)) (match_from p.0)) (cut rest)

abbrev pub attaching_as : ℕ → List ℕ × List ℕ → Option (Step GameKind)
attaching_as client p = option_and_then (λ claim. option_map (λ kind. Attaches client kind claim.0 claim.1 claim.2) (named p.0)) (claim_in p.1)

abbrev pub attaching : List ℕ → Option (Step GameKind)
attaching rest = option_and_then (λ p. option_and_then (λ client. option_and_then (attaching_as client) (cut p.1)) (client_in p.0)) (cut rest)

-- ---- an act: a client, and the act as the member of a client's line has it

-- the names in an act are UTF-8, as every text of JSON is
abbrev pub asked_is_utf8 : Asked → Bool
asked_is_utf8 (Move name args) = is_utf8 name
asked_is_utf8 (Event kind (Named name)) = is_utf8 name
asked_is_utf8 asked = true

abbrev pub asked_by : Result Members LineFault → Option Asked
asked_by (Ok ms) = option_and_then (λ asked. if asked_is_utf8 asked then Some asked else None) (asked_in (object ms))
asked_by (Err fault) = None

abbrev pub asked_of : List ℕ → Option Asked
asked_of text = asked_by (text_read text)

abbrev pub acting : List ℕ → Option (Step GameKind)
acting rest = option_and_then (λ p. option_and_then (λ client. option_map (Acts client) (asked_of p.1)) (client_in p.0)) (cut rest)

-- ---- a leaving: a match and a seat

abbrev pub leaving : List ℕ → Option (Step GameKind)
leaving rest = option_and_then (λ p. option_and_then (λ name. option_map (Leaves name) (seat_in p.1)) (match_from p.0)) (cut rest)

-- ---- the first word says what a line is

-- what a word asks of a client
abbrev pub client_step : List ℕ → ℕ → Option (Step GameKind)
client_step word client = if bytes_eq word (codes "arrive") then Some (Arrives client)
    else if bytes_eq word (codes "take") then Some (Takes client)
    else if bytes_eq word (codes "read") then Some (Reads client)
    else if bytes_eq word (codes "drop") then Some (Drops client)
    else if bytes_eq word (codes "show") then Some (Shows client)
    else None

abbrev pub by_client : List ℕ → List ℕ → Option (Step GameKind)
by_client word rest = option_and_then (client_step word) (client_in rest)

abbrev pub by_word : List ℕ → List ℕ → Option (Step GameKind)
by_word word rest = if bytes_eq word (codes "open") then opening rest
    else if bytes_eq word (codes "seed") then option_map Seeds (lower_hex 32 rest)
    else if bytes_eq word (codes "attach") then attaching rest
    else if bytes_eq word (codes "act") then acting rest
    else if bytes_eq word (codes "leave") then leaving rest
    else by_client word rest

abbrev pub step_in : List ℕ → Option (Step GameKind)
step_in line = option_and_then (λ p. by_word p.0 p.1) (cut line)

-- what a line of a world asks for; none where it is in no form
unfoldable pub world_step_of : List ℕ → Option (Step GameKind)
world_step_of [] = Some Nothing
world_step_of (b ∷ rest) = if b == 35 then Some Nothing else if is_utf8 (b ∷ rest) then step_in (b ∷ rest) else None
