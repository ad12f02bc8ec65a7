-- The history of a room is the list of its entries, the latest first. It makes the room what it is: its matches, and the sessions of its
-- passes, which stay after they have ended.
use Rattle.std.specs.Prelude.{ℕ, ◌==◌, List, [], ◌∷◌, if◌then◌else◌, length, Option, Some, None, option_map, find}
use Rattle.game_trait.specs.Rules.{Rules}
use Rattle.room_object.specs.Entry.{Entry}
use Rattle.room_history.specs.Does.{Room, room_after, room_after_want, reply_to}
use Rattle.room_history.specs.Match.{Match, number_of}
use Rattle.room_history.specs.Piece.{State, Open}
use Rattle.room_history.specs.Session.{Session, session_state}
use Rattle.game_sheet.specs.Viewer.{Viewer, seat_of}
use Rattle.room_history.specs.declared.call.RoomCall.{RoomCall}
use Rattle.room_history.specs.declared.reply.RoomReply.{RoomReply}
use Rattle.room_history.specs.declared.reply.RoomReply.TheVariants.{NoMemory}
use Rattle.std.specs.Option.{option_map_or}

-- the seat that a pass looks from, or none for a spectator, while its latest session goes on
abbrev pub seat_in : State → Viewer → Option (Option ℕ)
seat_in Open viewer = Some (seat_of viewer)
seat_in state viewer = None

abbrev pub latest_seat : List Session → Option (Option ℕ)
latest_seat [] = None
latest_seat (s ∷ before) = seat_in (session_state s) s.viewer

abbrev pub latest_in : List Session → Option Session
latest_in [] = None
latest_in (s ∷ before) = Some s

-- the session that began after so many others of its pass
abbrev pub session_in : ℕ → List Session → Option Session
session_in j [] = None
session_in j (s ∷ before) = if length before == j then Some s else session_in j before

module _ {X G : Type 0} (rules : X → Rules G) (room : ℕ) where
  abbrev pub step : Entry (RoomCall X) → Room X G → Room X G
  step e r = if e.starved then room_after_want rules room r e.pass e.call else room_after rules room r e.pass e.call

  abbrev pub room_of : List (Entry (RoomCall X)) → Room X G
  room_of [] = record { serials = 0; standing = None; removed = []; sessions = λ pass. [] }
  room_of (e ∷ h) = step e (room_of h)

  -- the reply to an entry after a history
  unfoldable pub reply : List (Entry (RoomCall X)) → Entry (RoomCall X) → RoomReply
  reply h e = if e.starved then NoMemory else reply_to rules room (room_of h) e.pass e.call

  abbrev pub serials : List (Entry (RoomCall X)) → ℕ
  serials h = (room_of h).serials

  abbrev pub standing : List (Entry (RoomCall X)) → Option (Match X G)
  standing h = (room_of h).standing

  -- the match of a serial, whether it stands or was removed, with its accepted actions, the latest first
  abbrev pub match_of : List (Entry (RoomCall X)) → ℕ → Option (Match X G)
  match_of h serial = find (λ m. m.serial == serial) (option_map_or (λ m. m ∷ (room_of h).removed) (standing h) (room_of h).removed)

  abbrev pub number : List (Entry (RoomCall X)) → Option ℕ
  number h = option_map (λ (m : Match X G). number_of m) (standing h)

  -- the session that a pass began with its attaching number j, from 0
  abbrev pub session : List (Entry (RoomCall X)) → ℕ → ℕ → Option Session
  session h pass j = session_in j ((room_of h).sessions pass)

  -- a pass's latest session, which is the only one of its sessions that goes on
  abbrev pub latest_session : List (Entry (RoomCall X)) → ℕ → Option Session
  latest_session h pass = latest_in ((room_of h).sessions pass)

  -- the seat that a pass looks from
  abbrev pub viewer_of : List (Entry (RoomCall X)) → ℕ → Option (Option ℕ)
  viewer_of h pass = latest_seat ((room_of h).sessions pass)
