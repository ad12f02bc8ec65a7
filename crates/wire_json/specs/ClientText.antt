-- The lines from clients: which object each message is, and when a line is a form of it.
use Rattle.std.specs.Prelude.{◌≤◌, ℕ, List, length, IsUtf8, ◌++◌, ◌⊎◌, Option, Some, None, codes}
use Rattle.serde_json.specs.Data.{null, string, object, Members, no_members, member}
use Rattle.serde_json.specs.Written.{compact_text}
use Rattle.hex.specs.Hex.{encode_lower}
use Rattle.json_tree.specs.Lines.{IsLineOf, newline}
use Rattle.game_sheet.specs.MatchName.{Name}
use Rattle.game_sheet.specs.Viewer.{Viewer, seat_of}
use Rattle.sheet_json.specs.Seats.{natural, natural_or_null}
use Rattle.wire_json.specs.MatchText.{match_text, IsName}
use Rattle.wire_json.specs.KeyText.{IsKey}
use Rattle.wire_json.specs.Asking.{IsWord, asked_members, AskedFits, IsAskable, AskedIsUtf8}
use Rattle.wire_json.specs.declared.client.ClientMsg.{ClientMsg}
use Rattle.wire_json.specs.declared.client.ClientMsg.TheVariants.{Games, Matches, Look, Create, Join, Rename, Leave, Sync, Act, Takeover}
use Rattle.wire_json.specs.declared.protocol.Protocol.{Protocol}
use Rattle.wire_json.specs.declared.protocol.Protocol.TheVariants.{One, Two}
use Rattle.std.specs.Option.{option_map_or}

abbrev pub of_type : List ℕ → Members
of_type kind = member (codes "type") (string kind) no_members

abbrev pub from_seat : ℕ → List ℕ → Members
from_seat seat kind = member (codes "seat") (natural seat) (of_type kind)

abbrev pub from_seats : ℕ → List ℕ → Members
from_seats seats kind = member (codes "seats") (natural seats) (of_type kind)

abbrev pub from_player : List ℕ → ℕ → List ℕ → Members
from_player player seat kind = member (codes "name") (string player) (from_seat seat kind)

abbrev pub place_members : Name → ℕ → List ℕ → Members
place_members name seat kind = member (codes "match") (string (match_text name)) (from_seat seat kind)

abbrev pub player_members : Name → List ℕ → ℕ → List ℕ → Members
player_members name player seat kind = member (codes "match") (string (match_text name)) (from_player player seat kind)

abbrev pub from_viewer : Option ℕ → Members
from_viewer seat = member (codes "seat") (natural_or_null seat) (of_type (codes "sync"))

abbrev pub protocol_number : Protocol → ℕ
protocol_number One = 1
protocol_number Two = 2

abbrev pub from_protocol : Protocol → Option ℕ → Members
from_protocol protocol seat = member (codes "protocol") (natural (protocol_number protocol)) (from_viewer seat)

-- protocol 1 is left unsaid
abbrev pub with_protocol : Protocol → Members → Members
with_protocol One members = members
with_protocol Two members = member (codes "protocol") (natural 2) members

abbrev pub after_match : Protocol → Option ℕ → Members
after_match protocol seat = with_protocol protocol (from_viewer seat)

-- a spectator has neither key nor seat
abbrev pub sync_members : Name → Viewer → Members → Members
sync_members name viewer rest = member (codes "key") (option_map_or (λ claim. string (encode_lower claim.1)) viewer null) (member (codes "match") (string (match_text name)) rest)

abbrev pub from_number : ℕ → ℕ → Members
from_number at ticket = member (codes "number") (natural at) (member (codes "ticket") (natural ticket) (of_type (codes "act")))

abbrev pub from_key : List ℕ → Name → ℕ → ℕ → Members
from_key key name at ticket = member (codes "key") (string (encode_lower key)) (member (codes "match") (string (match_text name)) (from_number at ticket))

-- the members of a message's object
abbrev pub client_members : ClientMsg → Members
client_members Games = of_type (codes "games")
client_members (Matches game) = member (codes "game") (string game) (of_type (codes "matches"))
client_members (Look name) = member (codes "match") (string (match_text name)) (of_type (codes "look"))
client_members (Create game seats) = member (codes "game") (string game) (from_seats seats (codes "create"))
client_members (Join name player seat) = player_members name player seat (codes "join")
client_members (Rename key name player seat) = member (codes "key") (string (encode_lower key)) (player_members name player seat (codes "rename"))
client_members (Leave key name seat) = member (codes "key") (string (encode_lower key)) (place_members name seat (codes "leave"))
client_members (Sync name viewer protocol) = sync_members name viewer (with_protocol protocol (from_viewer (seat_of viewer)))
client_members (Act s) = member (codes "act") (object (asked_members s.asked)) (from_key s.key s.name s.number s.ticket)
client_members (Takeover name seat) = place_members name seat (codes "takeover")

-- the same, where a sync says its protocol whichever it is
abbrev pub said_members : ClientMsg → Members
said_members (Sync name viewer protocol) = sync_members name viewer (from_protocol protocol (seat_of viewer))
said_members other = client_members other

abbrev pub ViewerFits : Viewer → Type 0
ViewerFits None = Unit {0}
ViewerFits (Some claim) = (claim.0 ≤ 255) × IsKey claim.1

-- the members are in their forms
abbrev pub ClientFits : ClientMsg → Type 0
ClientFits Games = Unit {0}
ClientFits (Matches game) = IsWord game
ClientFits (Look name) = IsName name
ClientFits (Create game seats) = IsWord game × (seats ≤ 255)
ClientFits (Join name player seat) = IsName name × (length player ≤ 255) × (seat ≤ 255)
ClientFits (Rename key name player seat) = IsKey key × IsName name × (length player ≤ 255) × (seat ≤ 255)
ClientFits (Leave key name seat) = IsKey key × IsName name × (seat ≤ 255)
ClientFits (Sync name viewer protocol) = IsName name × ViewerFits viewer
ClientFits (Act s) = AskedFits s.asked × IsKey s.key × IsName s.name × (s.number ≤ 4294967295) × (s.ticket ≤ 4294967295)
ClientFits (Takeover name seat) = IsName name × (seat ≤ 255)

-- what a caller sees to, where the types keep the rest
abbrev pub IsSendable : ClientMsg → Type 0
IsSendable (Matches game) = IsWord game
IsSendable (Create game seats) = IsWord game
IsSendable (Join name player seat) = length player ≤ 255
IsSendable (Rename key name player seat) = length player ≤ 255
IsSendable (Act s) = IsAskable s.asked
IsSendable other = Unit {0}

-- what every name is, since the types hold texts
abbrev pub ClientIsUtf8 : ClientMsg → Type 0
ClientIsUtf8 (Matches game) = IsUtf8 game
ClientIsUtf8 (Create game seats) = IsUtf8 game
ClientIsUtf8 (Join name player seat) = IsUtf8 player
ClientIsUtf8 (Rename key name player seat) = IsUtf8 player
ClientIsUtf8 (Act s) = AskedIsUtf8 s.asked
ClientIsUtf8 other = Unit {0}

-- The line is within the bound, and reads as the message's object. A sync that says protocol 1 is the same as one that says none.
abbrev pub IsForm : List ℕ → ClientMsg → Type 0
IsForm line message = (IsLineOf 65536 line (client_members message) ⊎ IsLineOf 65536 line (said_members message)) × ClientFits message

-- the line of a message, newline included
unfoldable pub client_text : ClientMsg → List ℕ
client_text message = compact_text (object (client_members message)) ++ newline
