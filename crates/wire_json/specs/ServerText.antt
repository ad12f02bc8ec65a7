-- The one text of each message to a client: the compact text of its object, members in byte order, and a newline.
use Rattle.std.specs.Prelude.{ℕ, ◌-◌, List, [], ◌∷◌, ◌++◌, map, Option, codes, None, Some}
use Rattle.serde_json.specs.Data.{Data, null, string, array, object, Items, Members, member, no_members}
use Rattle.serde_json.specs.View.{items_of}
use Rattle.serde_json.specs.Written.{compact_text}
use Rattle.hex.specs.Hex.{encode_lower}
use Rattle.sheet_json.specs.Seats.{natural, natural_or_null}
use Rattle.game_sheet.specs.MatchName.{Name}
use Rattle.wire_json.specs.declared.server.ServerMsg.{ServerMsg}
use Rattle.wire_json.specs.declared.server.ServerMsg.TheVariants.{Games, Matches, Match, Created, Joined, Renamed, Left, Asked, Sync, Update, Change, Ok, No, Again, Refused, Bye}
use Rattle.wire_json.specs.declared.reason.Reason.{Reason}
use Rattle.wire_json.specs.declared.refusal.Member.{Member}
use Rattle.wire_json.specs.declared.refusal.Refusal.{Refusal}
use Rattle.wire_json.specs.RowText.{row_data, rows_data}
use Rattle.wire_json.specs.ByeText.{bye_text}
use Rattle.wire_json.specs.MatchText.{match_text}
use Rattle.wire_json.specs.ReasonText.{reason_text}
use Rattle.wire_json.specs.RefusalText.{member_text, refusal_text, refusal_field}
use Rattle.wire_json.specs.ClientText.{of_type, place_members, with_protocol}

abbrev pub field_or_null : Option Member → Data
field_or_null None = null
field_or_null (Some field) = string (member_text field)

abbrev pub names_data : List (List ℕ) → Items
names_data names = items_of (map string names)

abbrev pub from_snapshot : Data → Members
from_snapshot snapshot = member (codes "snapshot") snapshot (of_type (codes "sync"))

abbrev pub from_seat : Option ℕ → Data → Members
from_seat seat snapshot = member (codes "seat") (natural_or_null seat) (from_snapshot snapshot)

abbrev pub from_g : Data → ℕ → Members
from_g g at = member (codes "g") g (member (codes "number") (natural at) (of_type (codes "update")))

-- what changed in the state: the names that are gone, and the members that are put
abbrev pub parts_data : Data → Data → Data
parts_data gone put = object (member (codes "gone") gone (member (codes "put") put no_members))

abbrev pub from_change : ℕ → Members
from_change was = member (codes "type") (string (codes "change")) (member (codes "was") (natural was) no_members)

abbrev pub from_number : ℕ → Members
from_number at = member (codes "number") (natural at) (from_change (at - 1))

abbrev pub from_parts : Data → Data → ℕ → Members
from_parts gone put at = member (codes "g") (parts_data gone put) (from_number at)

abbrev pub from_refusal : Refusal → Members
from_refusal refusal = member (codes "reason") (string (refusal_text refusal)) (of_type (codes "refused"))

abbrev pub from_reason : Reason → ℕ → Members
from_reason reason ticket = member (codes "reason") (string (reason_text reason)) (member (codes "ticket") (natural ticket) (of_type (codes "no")))

-- the members of a message's object
abbrev pub server_members : ServerMsg → Members
server_members (Games names) = member (codes "games") (array (names_data names)) (of_type (codes "games"))
server_members (Matches rows) = member (codes "matches") (array (rows_data rows)) (of_type (codes "matches"))
server_members (Match row) = member (codes "row") (row_data row) (of_type (codes "match"))
server_members (Created name) = member (codes "match") (string (match_text name)) (of_type (codes "created"))
server_members (Joined key name seat) = member (codes "key") (string (encode_lower key)) (place_members name seat (codes "joined"))
server_members (Renamed name seat) = place_members name seat (codes "renamed")
server_members (Left name seat) = place_members name seat (codes "left")
server_members (Asked name seat) = place_members name seat (codes "asked")
server_members (Sync name seat protocol snapshot) = member (codes "match") (string (match_text name)) (with_protocol protocol (from_seat seat snapshot))
server_members (Update ctx entry g at) = member (codes "ctx") ctx (member (codes "entry") entry (from_g g at))
server_members (Change ctx entry gone put at) = member (codes "ctx") ctx (member (codes "entry") entry (from_parts gone put at))
server_members (Ok at ticket) = member (codes "number") (natural at) (member (codes "ticket") (natural ticket) (of_type (codes "ok")))
server_members (No at reason ticket) = member (codes "number") (natural at) (from_reason reason ticket)
server_members (Again ticket) = member (codes "ticket") (natural_or_null ticket) (of_type (codes "again"))
server_members (Refused refusal) = member (codes "field") (field_or_null (refusal_field refusal)) (from_refusal refusal)
server_members (Bye why) = member (codes "type") (string (codes "bye")) (member (codes "why") (string (bye_text why)) no_members)

-- the line of a message, newline included
unfoldable pub text : ServerMsg → List ℕ
text message = compact_text (object (server_members message)) ++ 10 ∷ []
