-- The payload of a change: the compact text of one object, its members in the order of their names.
use Rattle.std.specs.Prelude.{◌≡◌, ℕ, List, ◌++◌, Bool, true, false, codes, Option, Some, None}
use Rattle.hex.specs.Hex.{encode_lower}
use Rattle.serde_json.specs.Data.{string, object, Members, no_members, member}
use Rattle.serde_json.specs.Written.{compact_text}
use Rattle.game_trait.specs.Rules.{Rules}
use Rattle.sheet_json.specs.Seats.{natural}
use Rattle.wire_json.specs.Asking.{asked_members, IsAskable}
use Rattle.room_history.specs.declared.call.RoomCall.{RoomCall}
use Rattle.room_history.specs.declared.call.RoomCall.TheVariants.{Submit}
use Rattle.room_changes.specs.declared.change.Change.{Change}
use Rattle.room_changes.specs.declared.change.Change.TheVariants as change

abbrev pub from_seat : ℕ → Members
from_seat seat = member (codes "seat") (natural seat) no_members

abbrev pub from_name : List ℕ → ℕ → Members
from_name name seat = member (codes "name") (string name) (from_seat seat)

abbrev pub from_kind : List ℕ → Members → Members
from_kind kind rest = member (codes "kind") (string kind) rest

abbrev pub from_seats : ℕ → List ℕ → Members
from_seats seats seed = member (codes "seats") (natural seats) (member (codes "seed") (string (encode_lower seed)) no_members)

abbrev pub keyed : List ℕ → List ℕ → Members → Members
keyed key kind rest = member (codes "key") (string (encode_lower key)) (from_kind kind rest)

module _ {X G : Type 0} (rules : X → Rules G) where
  abbrev pub change_members : Change X → Members
  change_members (change.Create game seats seed) = member (codes "game") (string (rules game).sheet.name) (from_kind (codes "create") (from_seats seats seed))
  change_members (change.Join seat name key) = keyed key (codes "join") (from_name name seat)
  change_members (change.Rename seat key name) = keyed key (codes "rename") (from_name name seat)
  change_members (change.Leave seat key) = keyed key (codes "leave") (from_seat seat)
  change_members change.Clear = from_kind (codes "clear") no_members
  change_members (change.Act seat asked) = member (codes "act") (object (asked_members asked)) (from_kind (codes "act") (from_seat seat))

  abbrev pub payload : Change X → List ℕ
  payload c = compact_text (object (change_members c))

  -- what is appended, where a call asks for a change
  abbrev pub Puts : Option (Change X) → List ℕ → List ℕ → Bool → Type 0
  Puts None old new some = (some ≡ false) × (new ≡ old)
  Puts (Some c) old new some = (some ≡ true) × (new ≡ old ++ payload c)

-- an action is in a form of the wire
abbrev pub AsksInForm : {X : Type 0} → RoomCall X → Type 0
AsksInForm (Submit s) = IsAskable s.asked
AsksInForm other = Unit {0}

abbrev pub ActsInForm : {X : Type 0} → Change X → Type 0
ActsInForm (change.Act seat asked) = IsAskable asked
ActsInForm other = Unit {0}
