-- The changes that a room's history accepted, the oldest first.
use Rattle.std.specs.Prelude.{ℕ, List, [], ◌∷◌, ◌++◌, Bool, true, false, Option, Some, None}
use Rattle.game_trait.specs.Rules.{Rules}
use Rattle.room_object.specs.Entry.{Entry}
use Rattle.wire_json.specs.declared.asked.Asked.{Asked}
use Rattle.wire_json.specs.declared.verdict.Verdict.{Verdict}
use Rattle.wire_json.specs.declared.verdict.Verdict.TheVariants as verdict
use Rattle.room_history.specs.Room.{reply, viewer_of}
use Rattle.room_history.specs.declared.call.RoomCall.{RoomCall}
use Rattle.room_history.specs.declared.call.RoomCall.TheVariants.{Create, Join, Rename, Leave, Submit, Clear}
use Rattle.room_history.specs.declared.reply.RoomReply.{RoomReply}
use Rattle.room_history.specs.declared.reply.RoomReply.TheVariants as reply_of
use Rattle.room_changes.specs.declared.change.Change.{Change}
use Rattle.room_changes.specs.declared.change.Change.TheVariants as change

-- an action is that of the seat that the caller looks from
abbrev pub act_by : {X : Type 0} → Option (Option ℕ) → Asked → Option (Change X)
act_by None asked = None
act_by (Some None) asked = None
act_by (Some (Some seat)) asked = Some (change.Act seat asked)

-- the change that a call asks for, by who looks by its pass
abbrev pub change_asked : {X : Type 0} → Option (Option ℕ) → RoomCall X → Option (Change X)
change_asked viewer (Create game seats seed) = Some (change.Create game seats seed)
change_asked viewer (Join serial seat name key) = Some (change.Join seat name key)
change_asked viewer (Rename serial seat key name) = Some (change.Rename seat key name)
change_asked viewer (Leave serial seat key) = Some (change.Leave seat key)
change_asked viewer (Submit s) = act_by viewer s.asked
change_asked viewer (Clear serial) = Some change.Clear
change_asked viewer other = None

abbrev pub is_ok : Verdict → Bool
is_ok (verdict.Ok number) = true
is_ok (verdict.No number reason) = false

-- whether a reply says that the change was made
abbrev pub is_accepted : RoomReply → Bool
is_accepted (reply_of.Created serial) = true
is_accepted reply_of.Joined = true
is_accepted reply_of.Renamed = true
is_accepted reply_of.Left = true
is_accepted reply_of.Cleared = true
is_accepted (reply_of.Verdict v) = is_ok v
is_accepted other = false

abbrev pub change_made : {X : Type 0} → Bool → Option (Change X) → List (Change X)
change_made false c = []
change_made true None = []
change_made true (Some c) = c ∷ []

module _ {X G : Type 0} (rules : X → Rules G) (room : ℕ) where
  abbrev pub changes_of : List (Entry (RoomCall X)) → List (Change X)
  changes_of [] = []
  changes_of (e ∷ h) = changes_of h ++ change_made (is_accepted (reply rules room h e)) (change_asked (viewer_of rules room h e.pass) e.call)
