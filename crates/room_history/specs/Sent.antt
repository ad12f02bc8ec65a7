-- What a session was sent: what its Takes handed out of its stream, and that is what they were replied.
use Rattle.std.specs.Prelude.{◌≡◌, ◌⊎◌, ◌+◌, ◌==◌, ℕ, true, false, Bool, ◌&&◌, if◌then◌else◌, List, [], ◌∷◌, ◌++◌, length, Option, Some, None}
use Rattle.std.specs.List.{concat}
use Rattle.game_trait.specs.Rules.{Rules}
use Rattle.game_sheet.specs.declared.act.Bye.{Bye}
use Rattle.room_object.specs.Entry.{Entry}
use Rattle.wire_json.specs.declared.server.ServerMsg.TheVariants.{Bye as Farewell}
use Rattle.wire_json.specs.ServerText.{text}
use Rattle.room_history.specs.Piece.{all_lines, message_lines, to_mark}
use Rattle.room_history.specs.Room.{room_of, reply}
use Rattle.room_history.specs.Session.{Session, stream_of, is_detached, handful, bytes_handed_out}
use Rattle.room_history.specs.declared.call.RoomCall.{RoomCall}
use Rattle.room_history.specs.declared.call.RoomCall.TheVariants.{Take}

-- a session was sent the lines of its stream up to the last mark, and the other ones wait for the next Take, unless a Detach lost them
pub record IsToldOf (s : Session) : Type 0 where
  pub sent : s.sent ≡ all_lines (to_mark (stream_of s))
  pub rest : is_detached s.own ≡ false → all_lines (stream_of s) ≡ s.sent ++ handful s
  -- the bye line comes at most at the end
  pub in_order : (s.sent ≡ message_lines (to_mark (stream_of s))) ⊎ ((why : Bye) × (s.sent ≡ message_lines (to_mark (stream_of s)) ++ text (Farewell why) ∷ []))

abbrev pub is_take : {X : Type 0} → RoomCall X → Bool
is_take Take = true
is_take call = false

module _ {X G : Type 0} (rules : X → Rules G) (room : ℕ) (h : List (Entry (RoomCall X))) (e : Entry (RoomCall X)) (pass j : ℕ) where
  -- whether an entry is a Take of the session that the pass began with its attaching number j, and the pass has begun no later one
  abbrev pub is_take_of : Bool
  is_take_of = is_take e.call && ((e.pass == pass) && (length ((room_of rules room h).sessions pass) == j + 1))

  -- the bytes that the session is sent by an entry: those that its Take is replied
  abbrev pub bytes_of_entry : List ℕ
  bytes_of_entry = if is_take_of then bytes_handed_out (reply rules room h e) else []

  -- what was sent before the entry, and what it adds; a session that it begins was sent nothing
  abbrev pub SendsReply : Option Session → Session → Type 0
  SendsReply None t = t.sent ≡ []
  SendsReply (Some s) t = concat t.sent ≡ concat s.sent ++ bytes_of_entry
