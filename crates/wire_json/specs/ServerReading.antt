-- How a line to a client is read: the message, or the first fault.
use Rattle.std.specs.Prelude.{◌≡◌, ◌≤◌, ℕ, List, [], ◌∷◌, map, true, nat_le, if◌then◌else◌, codes, Option, Some, None, Result, Ok, Err}
use Rattle.std.specs.List.{AllByRecursion}
use Rattle.std.specs.Map.{lookup}
use Rattle.std.specs.Str.{bytes_eq}
use Rattle.serde_json.specs.Data.{Data, object, Items}
use Rattle.serde_json.specs.Find.{get}
use Rattle.json_tree.specs.Fields.{text_in, list_in, natural_in, read_each}
use Rattle.json_tree.specs.Lines.{IsTextOf, text_read}
use Rattle.json_tree.specs.Steps.{◌>>=◌}
use Rattle.json_tree.specs.declared.fields.FieldFault.{FieldFault}
use Rattle.json_tree.specs.declared.fields.FieldFault.TheVariants.{Missing, OutOfRange}
use Rattle.game_sheet.specs.declared.act.Bye.{Bye}
use Rattle.wire_json.specs.Acts.{in_form, is_object, object_member_in, word_in}
use Rattle.wire_json.specs.ByeText.{bye_from}
use Rattle.sheet_json.specs.Seats.{IsWithin, or_null}
use Rattle.game_sheet.specs.MatchName.{Name}
use Rattle.wire_json.specs.ChangeReading.{is_texts, parts_in, later_in, before_in}
use Rattle.wire_json.specs.ClientReading.{the_match, the_key, the_seat, the_number, the_ticket, place_in as place_of}
use Rattle.wire_json.specs.KeyText.{IsKey}
use Rattle.wire_json.specs.MatchText.{IsName}
use Rattle.wire_json.specs.ReasonText.{reason_text}
use Rattle.wire_json.specs.Refusals.{Refusal, UnknownMessage, at_field, of_line, read_at, of_members, by_type}
use Rattle.wire_json.specs.RefusalText.{member_from, refusal_from, with_field}
use Rattle.wire_json.specs.RowReading.{row_in, rows_in}
use Rattle.wire_json.specs.RowText.{IsGameName, IsRow}
use Rattle.wire_json.specs.ServerText.{server_members}
use Rattle.wire_json.specs.declared.protocol.Protocol.{Protocol}
use Rattle.wire_json.specs.declared.protocol.Protocol.TheVariants as protocol
use Rattle.wire_json.specs.declared.reason.Reason.{Reason}
use Rattle.wire_json.specs.declared.reason.Reason.TheVariants.{NoMatch, Unauthorized, GameOver, MatchFull, CannotUndoNow, NotActive, UnknownMove, WrongNumber, NothingToUndo, NothingToRedo, NotYours, NotUndoable, InvalidMove, TooEarly, TooManyWords, TooManyEvents}
use Rattle.wire_json.specs.declared.refusal.Member.{Member}
use Rattle.wire_json.specs.declared.refusal.Refusal as refused
use Rattle.wire_json.specs.declared.server.ServerMsg.{ServerMsg}
use Rattle.wire_json.specs.declared.server.ServerMsg.TheVariants as to_client
use Rattle.std.specs.Option.{option_map_or}

-- what a message's own type doesn't keep: the forms of games' names, of names in rows, and of what a change says
abbrev pub IsTellable : ServerMsg → Type 0
IsTellable (to_client.Games names) = AllByRecursion IsGameName names
IsTellable (to_client.Matches rows) = AllByRecursion IsRow rows
IsTellable (to_client.Match row) = IsRow row
IsTellable (to_client.Change ctx entry gone put at) = (is_object ctx ≡ true) × (is_texts gone ≡ true) × (is_object put ≡ true) × (1 ≤ at)
IsTellable other = Unit {0}

-- the members are in their forms; those that are values of others may be any
abbrev pub ServerFits : ServerMsg → Type 0
ServerFits (to_client.Games names) = AllByRecursion IsGameName names
ServerFits (to_client.Matches rows) = AllByRecursion IsRow rows
ServerFits (to_client.Match row) = IsRow row
ServerFits (to_client.Created name) = IsName name
ServerFits (to_client.Joined key name seat) = IsKey key × IsName name × (seat ≤ 255)
ServerFits (to_client.Renamed name seat) = IsName name × (seat ≤ 255)
ServerFits (to_client.Left name seat) = IsName name × (seat ≤ 255)
ServerFits (to_client.Asked name seat) = IsName name × (seat ≤ 255)
ServerFits (to_client.Sync name seat protocol snapshot) = IsName name × IsWithin 255 seat
ServerFits (to_client.Update ctx entry g at) = at ≤ 4294967295
ServerFits (to_client.Change ctx entry gone put at) =
    (is_object ctx ≡ true) × (is_texts gone ≡ true) × (is_object put ≡ true) × (1 ≤ at) × (at ≤ 4294967295)
ServerFits (to_client.Ok at ticket) = (at ≤ 4294967295) × (ticket ≤ 4294967295)
ServerFits (to_client.No at reason ticket) = (at ≤ 4294967295) × (ticket ≤ 4294967295)
ServerFits (to_client.Again ticket) = IsWithin 4294967295 ticket
ServerFits (to_client.Refused refusal) = Unit {0}
ServerFits (to_client.Bye why) = Unit {0}

-- the line reads as the object of the message's text
abbrev pub IsServerForm : List ℕ → ServerMsg → Type 0
IsServerForm line message = IsTextOf line (server_members message) × ServerFits message

abbrev pub reason_table : List (List ℕ × Reason)
reason_table = map (λ reason. (reason_text reason, reason))
    (NoMatch ∷ Unauthorized ∷ GameOver ∷ MatchFull ∷ CannotUndoNow ∷ NotActive ∷ UnknownMove ∷ WrongNumber
    ∷ NothingToUndo ∷ NothingToRedo ∷ NotYours ∷ NotUndoable ∷ InvalidMove ∷ TooEarly ∷ TooManyWords ∷ TooManyEvents ∷ [])

abbrev pub reason_from : List ℕ → Option Reason
reason_from s = lookup (bytes_eq s) reason_table

-- ---- the forms of members

abbrev pub reason_in : Option Data → Result Reason FieldFault
reason_in found = text_in found >>= λ s. in_form (reason_from s)

abbrev pub member_in : Option Data → Result Member FieldFault
member_in found = text_in found >>= λ s. in_form (member_from s)

abbrev pub refusal_in : Option Data → Result refused.Refusal FieldFault
refusal_in found = text_in found >>= λ s. in_form (refusal_from s)

abbrev pub why_in : Option Data → Result Bye FieldFault
why_in found = text_in found >>= λ s. in_form (bye_from s)

abbrev pub tree_in : Option Data → Result Data FieldFault
tree_in found = option_map_or Ok found (Err Missing)

-- the names of games, each of 1 to 32 bytes
abbrev pub names_from : Items → Option (List (List ℕ))
names_from ds = read_each (λ d. word_in (Some d)) ds

-- a list that holds anything else is out of range
abbrev pub names_in : Option Data → Result (List (List ℕ)) FieldFault
names_in found = list_in found >>= λ ds. in_form (names_from ds)

-- protocol 1 is not named
abbrev pub protocol_in : Option Data → Result Protocol FieldFault
protocol_in None = Ok protocol.One
protocol_in (Some d) = natural_in 2 (Some d) >>= λ n. if nat_le 2 n then Ok protocol.Two else Err OutOfRange

-- the member of this name, whatever it holds
abbrev pub the_tree : List ℕ → Data → Result Data Refusal
the_tree name d = read_at name tree_in d

-- ---- the messages: each one's members, and what is read in them in the byte order of their names

unfoldable pub games_in : Data → Result ServerMsg Refusal
games_in d = of_members (codes "games" ∷ codes "type" ∷ []) d (read_at (codes "games") names_in d >>= λ names. Ok (to_client.Games names))

unfoldable pub matches_in : Data → Result ServerMsg Refusal
matches_in d = of_members (codes "matches" ∷ codes "type" ∷ []) d (read_at (codes "matches") rows_in d >>= λ rows. Ok (to_client.Matches rows))

unfoldable pub match_row_in : Data → Result ServerMsg Refusal
match_row_in d = of_members (codes "row" ∷ codes "type" ∷ []) d (read_at (codes "row") row_in d >>= λ row. Ok (to_client.Match row))

unfoldable pub created_in : Data → Result ServerMsg Refusal
created_in d = of_members (codes "match" ∷ codes "type" ∷ []) d (the_match d >>= λ name. Ok (to_client.Created name))

unfoldable pub joined_in : Data → Result ServerMsg Refusal
joined_in d = of_members (codes "key" ∷ codes "match" ∷ codes "seat" ∷ codes "type" ∷ []) d
    (the_key d >>= λ key. the_match d >>= λ name. the_seat d >>= λ seat. Ok (to_client.Joined key name seat))

-- an answer that names a seat of a match
unfoldable pub place_in : Data → Result (Name × ℕ) Refusal
place_in d = of_members (codes "match" ∷ codes "seat" ∷ codes "type" ∷ []) d (place_of d)

abbrev pub placed : (Name → ℕ → ServerMsg) → Data → Result ServerMsg Refusal
placed message d = place_in d >>= λ at. Ok (message at.0 at.1)

unfoldable pub synced_in : Data → Result ServerMsg Refusal
synced_in d = of_members (codes "match" ∷ codes "protocol" ∷ codes "seat" ∷ codes "snapshot" ∷ codes "type" ∷ []) d
    (the_match d >>= λ name. read_at (codes "protocol") protocol_in d >>= λ protocol. read_at (codes "seat") (or_null (natural_in 255)) d >>= λ seat.
    the_tree (codes "snapshot") d >>= λ snapshot. Ok (to_client.Sync name seat protocol snapshot))

unfoldable pub update_in : Data → Result ServerMsg Refusal
update_in d = of_members (codes "ctx" ∷ codes "entry" ∷ codes "g" ∷ codes "number" ∷ codes "type" ∷ []) d
    (the_tree (codes "ctx") d >>= λ ctx. the_tree (codes "entry") d >>= λ entry. the_tree (codes "g") d >>= λ g.
    the_number d >>= λ at. Ok (to_client.Update ctx entry g at))

-- the number before is no member of the message, since it is the number less 1
unfoldable pub change_in : Data → Result ServerMsg Refusal
change_in d = of_members (codes "ctx" ∷ codes "entry" ∷ codes "g" ∷ codes "number" ∷ codes "type" ∷ codes "was" ∷ []) d
    (read_at (codes "ctx") object_member_in d >>= λ ctx. the_tree (codes "entry") d >>= λ entry. read_at (codes "g") parts_in d >>= λ parts.
    read_at (codes "number") later_in d >>= λ at. read_at (codes "was") (before_in at) d >>= λ was. Ok (to_client.Change ctx entry parts.0 parts.1 at))

unfoldable pub ok_in : Data → Result ServerMsg Refusal
ok_in d = of_members (codes "number" ∷ codes "ticket" ∷ codes "type" ∷ []) d (the_number d >>= λ at. the_ticket d >>= λ ticket. Ok (to_client.Ok at ticket))

unfoldable pub no_in : Data → Result ServerMsg Refusal
no_in d = of_members (codes "number" ∷ codes "reason" ∷ codes "ticket" ∷ codes "type" ∷ []) d
    (the_number d >>= λ at. read_at (codes "reason") reason_in d >>= λ reason. the_ticket d >>= λ ticket. Ok (to_client.No at reason ticket))

unfoldable pub again_in : Data → Result ServerMsg Refusal
again_in d = of_members (codes "ticket" ∷ codes "type" ∷ []) d
    (read_at (codes "ticket") (or_null (natural_in 4294967295)) d >>= λ ticket. Ok (to_client.Again ticket))

-- a field beside a reason that can't point at one is a fault of the field
unfoldable pub refused_in : Data → Result ServerMsg Refusal
refused_in d = of_members (codes "field" ∷ codes "reason" ∷ codes "type" ∷ []) d
    (read_at (codes "field") (or_null member_in) d >>= λ field. read_at (codes "reason") refusal_in d >>= λ reason.
    at_field (codes "field") (in_form (with_field reason field)) >>= λ refusal. Ok (to_client.Refused refusal))

unfoldable pub bye_in : Data → Result ServerMsg Refusal
bye_in d = of_members (codes "type" ∷ codes "why" ∷ []) d (read_at (codes "why") why_in d >>= λ why. Ok (to_client.Bye why))

-- the answers to what a session asks of the lobby
abbrev pub answer_as : List ℕ → Data → Result ServerMsg Refusal
answer_as kind d = by_type kind d (Err UnknownMessage)
    ((codes "asked", placed to_client.Asked) ∷ (codes "created", created_in) ∷ (codes "games", games_in) ∷ (codes "joined", joined_in)
    ∷ (codes "left", placed to_client.Left) ∷ (codes "match", match_row_in) ∷ (codes "matches", matches_in) ∷ (codes "renamed", placed to_client.Renamed) ∷ [])

abbrev pub server_as : Result (List ℕ) FieldFault → Data → Result ServerMsg Refusal
server_as (Err fault) d = Err UnknownMessage
server_as (Ok kind) d = by_type kind d (answer_as kind d)
    ((codes "again", again_in) ∷ (codes "bye", bye_in) ∷ (codes "change", change_in) ∷ (codes "no", no_in) ∷ (codes "ok", ok_in)
    ∷ (codes "refused", refused_in) ∷ (codes "sync", synced_in) ∷ (codes "update", update_in) ∷ [])

unfoldable pub server_in : Data → Result ServerMsg Refusal
server_in d = server_as (text_in (get (codes "type") d)) d

unfoldable pub server_read : List ℕ → Result ServerMsg Refusal
server_read line = of_line (text_read line) >>= λ ms. server_in (object ms)
