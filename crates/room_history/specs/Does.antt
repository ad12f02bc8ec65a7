-- What each call makes of a room: of the count of its matches, the match that stands, those removed, and the sessions of each pass.
use Rattle.std.specs.Prelude.{ℕ, ◌==◌, List, [], ◌∷◌, ◌++◌, Bool, true, false, ◌&&◌, if◌then◌else◌, Option, Some, None, Result, Ok, Err}
use Rattle.game_trait.specs.Rules.{Rules}
use Rattle.seat_roster.specs.Roster.{join, rename, leave, is_empty}
use Rattle.wire_json.specs.declared.protocol.Protocol.{Protocol}
use Rattle.room_history.specs.Item.{Submitted, Took, Left, Detached, Starved}
use Rattle.room_history.specs.Match.{Match}
use Rattle.room_history.specs.Reply.{reply_by, created_match, named_match, looked_match, reseated_match, attached_match, Fate, Goes, submit_reply, fate, game_answer, match_row}
use Rattle.room_history.specs.Session.{Session, number_in, is_looking, with_item, handful, with_latest, session_state, latest_state, latest_take_reply, detach_reply}
use Rattle.room_history.specs.Shown.{snapshot}
use Rattle.game_sheet.specs.Viewer.{Viewer, seat_of}
use Rattle.room_history.specs.declared.call.RoomCall.{RoomCall}
use Rattle.room_history.specs.declared.call.RoomCall.TheVariants.{Create, Join, Rename, Leave, Look, Attach, Submit, Take, Detach, Clear}
use Rattle.room_history.specs.declared.reply.RoomReply.{RoomReply}
use Rattle.room_history.specs.declared.reply.RoomReply.TheVariants as reply
use Rattle.wire_json.specs.declared.submission.Submission.{Submission}
use Rattle.std.specs.Option.{option_map_or}

pub record Room (X G : Type 0) : Type 0 where
  -- how many matches were made
  pub serials : ℕ
  pub standing : Option (Match X G)
  -- the latest first
  pub removed : List (Match X G)
  -- of each pass, the latest first
  pub sessions : ℕ → List Session

-- the latest session of every pass, and of one pass, changes
abbrev pub with_each : {X G : Type 0} → (Session → Session) → Room X G → Room X G
with_each change r = record r { sessions = λ q. with_latest change (r.sessions q) }

abbrev pub with_one : {X G : Type 0} → ℕ → (Session → Session) → Room X G → Room X G
with_one pass change r = record r { sessions = λ q. if pass == q then with_latest change (r.sessions q) else r.sessions q }

-- a leaving is that of the seat's sessions; where the match is removed with it, of all that look, the spectators too
abbrev pub is_left : ℕ → Bool → Viewer → Bool
is_left seat removed viewer = if removed then true else option_map_or (λ claim. claim.0 == seat) viewer false

-- a session that looks is left
abbrev pub left_where : Bool → Session → Session
left_where left s = if is_looking s.own && left then record s { own = Left (number_in s.sight) ∷ s.own } else s

-- the room after each kind of call
abbrev pub with_new_match : {X G : Type 0} → Room X G → Result (Match X G) RoomReply → Room X G
with_new_match r (Ok m) = record r { serials = m.serial; standing = Some m }
with_new_match r (Err why) = r

abbrev pub with_match : {X G : Type 0} → Room X G → Result (Match X G) RoomReply → Room X G
with_match r (Ok m) = record r { standing = Some m }
with_match r (Err why) = r

abbrev pub with_removed_if : {X G : Type 0} → Bool → Match X G → Room X G → Room X G
with_removed_if removes m r = if removes then record r { standing = None; removed = m ∷ r.removed } else record r { standing = Some m }

-- the match is removed once nobody sits at it
abbrev pub with_left_seat : {X G : Type 0} → ℕ → Room X G → Result (Match X G) RoomReply → Room X G
with_left_seat seat r (Ok m) = with_removed_if (is_empty m.roster) m (with_each (λ s. left_where (is_left seat (is_empty m.roster) s.viewer) s) r)
with_left_seat seat r (Err why) = r

-- a match that is cleared is removed, and left by all that look
abbrev pub with_cleared : {X G : Type 0} → Room X G → Result (Match X G) RoomReply → Room X G
with_cleared r (Ok m) = with_removed_if true m (with_each (left_where true) r)
with_cleared r (Err why) = r

module _ {X G : Type 0} (rules : X → Rules G) (room : ℕ) where
  -- a session begins with the snapshot of its match
  abbrev pub new_session : Match X G → Viewer → Protocol → Session
  new_session m viewer protocol = record {
    name = record { room = room; serial = m.serial };
    sheet = (rules m.game).sheet;
    viewer = viewer;
    protocol = protocol;
    sight = snapshot rules m (seat_of viewer) ∷ [];
    own = [];
    sent = [];
  }

  abbrev pub with_session : ℕ → Viewer → Protocol → Room X G → Result (Match X G) RoomReply → Room X G
  with_session pass viewer protocol r (Ok m) = record r { sessions = λ q. if pass == q then new_session m viewer protocol ∷ r.sessions q else r.sessions q }
  with_session pass viewer protocol r (Err why) = r

  -- the snapshot after an accepted action is shown to each session that looks
  abbrev pub with_fate : Room X G → Fate X G → Room X G
  with_fate r (Goes m) = with_each (λ s. if is_looking s.own then record s { sight = snapshot rules m (seat_of s.viewer) ∷ s.sight } else s)
      (record r { standing = Some m })
  with_fate r other = r

  -- a submission is written down with the number at which it fell and the game's answer
  abbrev pub after_submission : Option (Match X G) → Submission → Session → Session
  after_submission standing s c = with_item (Submitted (number_in c.sight) s (game_answer rules room standing (session_state c) c.viewer s)) c

  abbrev pub room_after : Room X G → ℕ → RoomCall X → Room X G
  room_after r pass (Create game seats seed) = with_new_match r (created_match rules r.serials r.standing game seats seed)
  room_after r pass (Join serial seat name key) = with_match r (reseated_match (named_match r.standing serial) (λ roster. join roster seat name key))
  room_after r pass (Rename serial seat key name) = with_match r (reseated_match (named_match r.standing serial) (λ roster. rename roster seat key name))
  room_after r pass (Leave serial seat key) = with_left_seat seat r (reseated_match (named_match r.standing serial) (λ roster. leave roster seat key))
  room_after r pass (Look serial) = r
  room_after r pass (Attach serial viewer protocol) = with_session pass viewer protocol r (attached_match r.standing (latest_state (r.sessions pass)) serial viewer)
  room_after r pass (Submit s) = with_fate (with_one pass (after_submission r.standing s) r) (fate rules room r.standing (r.sessions pass) s)
  room_after r pass Take = with_one pass (λ s. with_item (Took (number_in s.sight)) (record s { sent = s.sent ++ handful s })) r
  room_after r pass Detach = with_one pass (λ s. with_item (Detached (number_in s.sight)) s) r
  room_after r pass (Clear serial) = with_cleared r (named_match r.standing serial)

  -- want of memory changes nothing; a submission that met it is written down
  abbrev pub room_after_want : Room X G → ℕ → RoomCall X → Room X G
  room_after_want r pass (Submit s) = with_one pass (λ c. with_item (Submitted (number_in c.sight) s Starved) c) r
  room_after_want r pass call = r

  abbrev pub reply_to : Room X G → ℕ → RoomCall X → RoomReply
  reply_to r pass (Create game seats seed) = reply_by (λ (m : Match X G). reply.Created m.serial) (created_match rules r.serials r.standing game seats seed)
  reply_to r pass (Join serial seat name key) = reply_by (λ m. reply.Joined) (reseated_match (named_match r.standing serial) (λ roster. join roster seat name key))
  reply_to r pass (Rename serial seat key name) =
      reply_by (λ m. reply.Renamed) (reseated_match (named_match r.standing serial) (λ roster. rename roster seat key name))
  reply_to r pass (Leave serial seat key) = reply_by (λ m. reply.Left) (reseated_match (named_match r.standing serial) (λ roster. leave roster seat key))
  reply_to r pass (Look serial) = reply_by (λ m. reply.Looked (match_row rules room m)) (looked_match r.standing serial)
  reply_to r pass (Attach serial viewer protocol) = reply_by (λ m. reply.Attached) (attached_match r.standing (latest_state (r.sessions pass)) serial viewer)
  reply_to r pass (Submit s) = submit_reply (fate rules room r.standing (r.sessions pass) s)
  reply_to r pass Take = latest_take_reply (r.sessions pass)
  reply_to r pass Detach = detach_reply (latest_state (r.sessions pass))
  reply_to r pass (Clear serial) = reply_by (λ m. reply.Cleared) (named_match r.standing serial)
