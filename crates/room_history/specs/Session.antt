-- A session: which match it looks at, for whom and in which protocol, what it was shown, what it did, and what it was sent.
use Rattle.std.specs.Prelude.{ℕ, List, [], ◌∷◌, ◌++◌, Bool, true, false, if◌then◌else◌, Option, Some, None}
use Rattle.std.specs.List.{concat}
use Rattle.game_sheet.specs.MatchName.{Name}
use Rattle.game_sheet.specs.declared.act.Bye.{Bye}
use Rattle.game_sheet.specs.declared.sheet.Sheet.{Sheet}
use Rattle.player_sight.specs.SnapshotData.{Snap}
use Rattle.wire_json.specs.declared.protocol.Protocol.{Protocol}
use Rattle.room_history.specs.Item.{Item, Left, Detached}
use Rattle.wire_json.specs.declared.server.ServerMsg.TheVariants.{Bye as Farewell}
use Rattle.wire_json.specs.ServerText.{text}
use Rattle.room_history.specs.Piece.{Piece, State, Open, Ended, Closed, state_of, waiting_lines}
use Rattle.room_history.specs.Stream.{stream}
use Rattle.game_sheet.specs.Viewer.{Viewer}
use Rattle.room_history.specs.declared.reply.RoomReply.{RoomReply}
use Rattle.room_history.specs.declared.reply.RoomReply.TheVariants as reply
use Rattle.std.specs.Option.{option_map_or}

pub record Session : Type 0 where
  pub name : Name
  pub sheet : Sheet
  pub viewer : Viewer
  pub protocol : Protocol
  -- the snapshots that it was shown, the latest first
  pub sight : List Snap
  -- what it did, the latest first
  pub own : List Item
  -- the lines that its Takes handed out, in order, with the bye line where the end was handed out
  pub sent : List (List ℕ)

abbrev pub stream_of : Session → List Piece
stream_of s = stream s.name s.sheet s.viewer s.protocol s.sight s.own

-- the state number at which the session stands: that of the latest snapshot that it was shown
abbrev pub number_in : List Snap → ℕ
number_in [] = 0
number_in (s ∷ sight) = s.number

-- a Detach closes the list of what a session did
abbrev pub is_detached : List Item → Bool
is_detached [] = false
is_detached (Detached n ∷ own) = true
is_detached (item ∷ own) = false

-- a session looks until its seat is left, its match is removed or it is detached
abbrev pub is_looking : List Item → Bool
is_looking [] = true
is_looking (Detached n ∷ own) = false
is_looking (Left n ∷ own) = false
is_looking (item ∷ own) = is_looking own

-- how the session stands: it goes on, has ended, or is attached no more
abbrev pub session_state : Session → State
session_state s = if is_detached s.own then Closed else state_of (stream_of s)

abbrev pub with_item : Item → Session → Session
with_item item s = if is_detached s.own then s else record s { own = item ∷ s.own }

abbrev pub bye_lines : Option Bye → List (List ℕ)
bye_lines ended = option_map_or (λ why. text (Farewell why) ∷ []) ended []

-- what a Take hands out of a stream in a state: the lines that wait, and at an end the bye line
abbrev pub lines_handed_out : State → List Piece → List (List ℕ)
lines_handed_out Open pieces = waiting_lines pieces
lines_handed_out (Ended why) pieces = waiting_lines pieces ++ bye_lines (Some why)
lines_handed_out Closed pieces = []

-- and how it is replied: the bytes of the lines that wait, and the end
abbrev pub take_reply_in : State → List Piece → RoomReply
take_reply_in Open pieces = reply.Taken (concat (waiting_lines pieces)) None
take_reply_in (Ended why) pieces = reply.Taken (concat (waiting_lines pieces)) (Some why)
take_reply_in Closed pieces = reply.NotAttached

abbrev pub handful : Session → List (List ℕ)
handful s = lines_handed_out (session_state s) (stream_of s)

-- the bytes that a reply hands out, those of the bye line included
abbrev pub bytes_handed_out : RoomReply → List ℕ
bytes_handed_out (reply.Taken bytes end) = bytes ++ concat (bye_lines end)
bytes_handed_out other = []

abbrev pub detach_reply : State → RoomReply
detach_reply Closed = reply.NotAttached
detach_reply state = reply.Detached

-- a pass's sessions, the latest first: that one is the only one that anything happens to
abbrev pub with_latest : (Session → Session) → List Session → List Session
with_latest change [] = []
with_latest change (s ∷ before) = change s ∷ before

abbrev pub latest_state : List Session → State
latest_state [] = Closed
latest_state (s ∷ before) = session_state s

abbrev pub latest_take_reply : List Session → RoomReply
latest_take_reply [] = reply.NotAttached
latest_take_reply (s ∷ before) = take_reply_in (session_state s) (stream_of s)
