-- What of a room is kept: a record for each accepted change, and which calls a record can name.
use Rattle.std.specs.Prelude.{◌≡◌, ℕ, List, [], ◌∷◌, ◌++◌, map, Bool, false, is_some, Option, Some, option_map, option_and_then}
use Rattle.any_game.specs.AnyRules.{any_rules, named}
use Rattle.any_game.specs.GameKind.{GameKind}
use Rattle.room_object.specs.Entry.{Entry}
use Rattle.wire_json.specs.Asking.{IsAskable}
use Rattle.room_history.specs.Room.{viewer_of}
use Rattle.room_history.specs.declared.call.RoomCall.{RoomCall}
use Rattle.room_history.specs.declared.call.RoomCall.TheVariants.{Create, Submit}
use Rattle.room_changes.specs.ChangesOf.{change_asked, changes_of}
use Rattle.room_changes.specs.Kept.{kept}
use Rattle.room_changes.specs.declared.change.Change.{Change}
use Rattle.change_text.specs.Payload.{payload}
use Rattle.change_text.specs.Reading.{change_read}
use Rattle.std.specs.Option.{option_map_or}

-- the payloads of changes
abbrev pub texts : List (Change GameKind) → List (List ℕ)
texts changes = map (payload any_rules) changes

abbrev pub room_records : ℕ → List (Entry (RoomCall GameKind)) → List (List ℕ)
room_records room h = texts (changes_of any_rules room h)

abbrev pub room_payload : ℕ → List (Entry (RoomCall GameKind)) → ℕ → RoomCall GameKind → Option (List ℕ)
room_payload room h pass call = option_map (payload any_rules) (change_asked (viewer_of any_rules room h pass) call)

-- a Create's game is one that its name gives, and an action is in a form of the wire
abbrev pub IsInForm : RoomCall GameKind → Type 0
IsInForm (Create game seats seed) = named (any_rules game).sheet.name ≡ Some game
IsInForm (Submit s) = IsAskable s.asked
IsInForm other = Unit {0}

-- the changes that records are the texts of; none where one of them is the text of no change
abbrev pub changes_read : List (List ℕ) → Option (List (Change GameKind))
changes_read [] = Some []
changes_read (first ∷ records) = option_and_then (λ c. option_map (λ cs. c ∷ cs) (changes_read records)) (change_read first)

-- a payload is in form, and the room accepts its change after those of the records
abbrev pub may_follow : ℕ → List (List ℕ) → List ℕ → Bool
may_follow room records next = option_map_or (λ changes. is_some (kept any_rules room changes)) (changes_read (records ++ next ∷ [])) false
