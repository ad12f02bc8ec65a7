-- How a line from a client is read: the message, or the first fault.
use Rattle.std.specs.Prelude.{ℕ, List, [], ◌∷◌, ◌==◌, Bool, true, false, if◌then◌else◌, codes, Option, Some, None, Result, Ok, Err}
use Rattle.serde_json.specs.Data.{Data, object}
use Rattle.serde_json.specs.Find.{get}
use Rattle.json_tree.specs.Fields.{text_in, natural_in}
use Rattle.json_tree.specs.Lines.{line_read}
use Rattle.json_tree.specs.Steps.{◌>>=◌}
use Rattle.json_tree.specs.declared.fields.FieldFault.{FieldFault}
use Rattle.json_tree.specs.declared.fields.FieldFault.TheVariants.{OutOfRange}
use Rattle.game_sheet.specs.MatchName.{Name}
use Rattle.game_sheet.specs.Viewer.{Viewer}
use Rattle.wire_json.specs.MatchText.{match_from}
use Rattle.wire_json.specs.KeyText.{key_from}
use Rattle.sheet_json.specs.Seats.{or_null}
use Rattle.wire_json.specs.Acts.{act_in, in_form, text_within}
use Rattle.wire_json.specs.Refusals.{Refusal, UnknownMessage, of_line, read_at, of_members, by_type}
use Rattle.wire_json.specs.declared.client.ClientMsg.{ClientMsg}
use Rattle.wire_json.specs.declared.client.ClientMsg.TheVariants.{Games, Matches, Look, Create, Join, Rename, Leave, Sync, Act, Takeover}
use Rattle.wire_json.specs.declared.protocol.Protocol.{Protocol}
use Rattle.wire_json.specs.declared.protocol.Protocol.TheVariants.{One, Two}

-- ---- the forms of members

abbrev pub match_in : Option Data → Result Name FieldFault
match_in found = text_in found >>= λ s. in_form (match_from s)

abbrev pub key_in : Option Data → Result (List ℕ) FieldFault
key_in found = text_in found >>= λ s. in_form (key_from s)

abbrev pub both_or_neither : {A B : Type 0} → Option A → Option B → Bool
both_or_neither None None = true
both_or_neither (Some x) (Some y) = true
both_or_neither x y = false

-- A key stands with a seat, and null with null. Beside a seat in no form the key is judged alone.
abbrev pub key_beside : Result (Option ℕ) FieldFault → Option (List ℕ) → Result (Option (List ℕ)) FieldFault
key_beside (Err fault) key = Ok key
key_beside (Ok seat) key = if both_or_neither key seat then Ok key else Err OutOfRange

abbrev pub key_of_seat_in : Result (Option ℕ) FieldFault → Option Data → Result (Option (List ℕ)) FieldFault
key_of_seat_in seat found = or_null key_in found >>= key_beside seat

abbrev pub viewer_of : Option (List ℕ) → Option ℕ → Viewer
viewer_of (Some key) (Some seat) = Some (seat, key)
viewer_of key seat = None

-- protocol 1 may be left unsaid
abbrev pub protocol_in : Option Data → Result Protocol FieldFault
protocol_in None = Ok One
protocol_in (Some d) = natural_in 2 (Some d) >>= λ n. in_form (if n == 1 then Some One else if n == 2 then Some Two else None)

-- ---- members that several messages have

-- the match that an object names
abbrev pub the_match : Data → Result Name Refusal
the_match d = read_at (codes "match") match_in d

-- the key that an object writes
abbrev pub the_key : Data → Result (List ℕ) Refusal
the_key d = read_at (codes "key") key_in d

-- the seat that an object names
abbrev pub the_seat : Data → Result ℕ Refusal
the_seat d = read_at (codes "seat") (natural_in 255) d

-- the state number that an object holds
abbrev pub the_number : Data → Result ℕ Refusal
the_number d = read_at (codes "number") (natural_in 4294967295) d

-- the ticket that an object holds
abbrev pub the_ticket : Data → Result ℕ Refusal
the_ticket d = read_at (codes "ticket") (natural_in 4294967295) d

-- the key of a sync, which stands beside this seat, and its match
abbrev pub claim_in : Result (Option ℕ) FieldFault → Data → Result (Option (List ℕ) × Name) Refusal
claim_in seat d = read_at (codes "key") (key_of_seat_in seat) d >>= λ key. the_match d >>= λ name. Ok (key, name)

-- an act's state number and ticket
abbrev pub count_in : Data → Result (ℕ × ℕ) Refusal
count_in d = the_number d >>= λ at. the_ticket d >>= λ ticket. Ok (at, ticket)

-- the members of an act but for `act` itself
abbrev pub stamp_in : Data → Result (List ℕ × Name × ℕ × ℕ) Refusal
stamp_in d = the_key d >>= λ key. the_match d >>= λ name. count_in d >>= λ count. Ok (key, name, count.0, count.1)

-- a seat of a match
abbrev pub place_in : Data → Result (Name × ℕ) Refusal
place_in d = the_match d >>= λ name. the_seat d >>= λ seat. Ok (name, seat)

-- a player's name for a seat of a match
abbrev pub player_in : Data → Result (Name × List ℕ × ℕ) Refusal
player_in d = the_match d >>= λ name. read_at (codes "name") (text_within 0 255) d >>= λ player. the_seat d >>= λ seat. Ok (name, player, seat)

-- ---- the messages: each one's members, and what is read in them in the byte order of their names

unfoldable pub client_act_in : Data → Result ClientMsg Refusal
client_act_in d = of_members (codes "act" ∷ codes "key" ∷ codes "match" ∷ codes "number" ∷ codes "ticket" ∷ codes "type" ∷ []) d
    (read_at (codes "act") act_in d >>= λ asked. stamp_in d >>= λ stamp.
    Ok (Act (record { name = stamp.1; key = stamp.0; number = stamp.2; ticket = stamp.3; asked = asked })))

unfoldable pub sync_in : Data → Result ClientMsg Refusal
sync_in d = of_members (codes "key" ∷ codes "match" ∷ codes "protocol" ∷ codes "seat" ∷ codes "type" ∷ []) d
    (claim_in (or_null (natural_in 255) (get (codes "seat") d)) d >>= λ claim. read_at (codes "protocol") protocol_in d >>= λ protocol.
    read_at (codes "seat") (or_null (natural_in 255)) d >>= λ seat. Ok (Sync claim.1 (viewer_of claim.0 seat) protocol))

unfoldable pub takeover_in : Data → Result ClientMsg Refusal
takeover_in d = of_members (codes "match" ∷ codes "seat" ∷ codes "type" ∷ []) d (place_in d >>= λ place. Ok (Takeover place.0 place.1))

unfoldable pub games_in : Data → Result ClientMsg Refusal
games_in d = of_members (codes "type" ∷ []) d (Ok Games)

unfoldable pub matches_in : Data → Result ClientMsg Refusal
matches_in d = of_members (codes "game" ∷ codes "type" ∷ []) d (read_at (codes "game") (text_within 1 32) d >>= λ game. Ok (Matches game))

unfoldable pub look_in : Data → Result ClientMsg Refusal
look_in d = of_members (codes "match" ∷ codes "type" ∷ []) d (the_match d >>= λ name. Ok (Look name))

unfoldable pub create_in : Data → Result ClientMsg Refusal
create_in d = of_members (codes "game" ∷ codes "seats" ∷ codes "type" ∷ []) d
    (read_at (codes "game") (text_within 1 32) d >>= λ game. read_at (codes "seats") (natural_in 255) d >>= λ seats. Ok (Create game seats))

unfoldable pub join_in : Data → Result ClientMsg Refusal
join_in d = of_members (codes "match" ∷ codes "name" ∷ codes "seat" ∷ codes "type" ∷ []) d (player_in d >>= λ p. Ok (Join p.0 p.1 p.2))

unfoldable pub rename_in : Data → Result ClientMsg Refusal
rename_in d = of_members (codes "key" ∷ codes "match" ∷ codes "name" ∷ codes "seat" ∷ codes "type" ∷ []) d
    (the_key d >>= λ key. player_in d >>= λ p. Ok (Rename key p.0 p.1 p.2))

unfoldable pub leave_in : Data → Result ClientMsg Refusal
leave_in d = of_members (codes "key" ∷ codes "match" ∷ codes "seat" ∷ codes "type" ∷ []) d
    (the_key d >>= λ key. place_in d >>= λ place. Ok (Leave key place.0 place.1))

-- what is asked of the lobby
abbrev pub lobby_as : List ℕ → Data → Result ClientMsg Refusal
lobby_as kind d = by_type kind d (Err UnknownMessage)
    ((codes "create", create_in) ∷ (codes "games", games_in) ∷ (codes "join", join_in) ∷ (codes "leave", leave_in)
    ∷ (codes "look", look_in) ∷ (codes "matches", matches_in) ∷ (codes "rename", rename_in) ∷ [])

abbrev pub client_as : Result (List ℕ) FieldFault → Data → Result ClientMsg Refusal
client_as (Err fault) d = Err UnknownMessage
client_as (Ok kind) d = by_type kind d (lobby_as kind d) ((codes "act", client_act_in) ∷ (codes "sync", sync_in) ∷ (codes "takeover", takeover_in) ∷ [])

unfoldable pub client_in : Data → Result ClientMsg Refusal
client_in d = client_as (text_in (get (codes "type") d)) d

unfoldable pub client_read : List ℕ → Result ClientMsg Refusal
client_read line = of_line (line_read 65536 line) >>= λ ms. client_in (object ms)
