-- What each call makes of the attachments that are held, said of held values alone: nothing is asked of histories, of what was shown or
-- of what was done.
use Rattle.std.specs.Prelude.{◌≡◌, ◌+◌, ℕ, nat_eq, List, [], ◌∷◌, Bool, if◌then◌else◌, Option, Some, None, option_map, Result, Ok, Err}
use Rattle.std.specs.List.{concat}
use Rattle.std.specs.Map.{lookup}
use Rattle.game_trait.specs.Rules.{Rules}
use Rattle.game_sheet.specs.declared.act.Bye.{Bye}
use Rattle.game_sheet.specs.declared.act.Bye.TheVariants as bye
use Rattle.player_sight.specs.SnapshotData.{snapshot_data}
use Rattle.room_object.specs.Entry.{Entry}
use Rattle.seat_roster.specs.Roster.{is_empty, join, rename, leave}
use Rattle.wire_json.specs.declared.protocol.Protocol.{Protocol}
use Rattle.room_history.specs.Does.{is_left}
use Rattle.room_history.specs.Match.{Match, number_of}
use Rattle.wire_json.specs.declared.server.ServerMsg.{ServerMsg}
use Rattle.wire_json.specs.declared.server.ServerMsg.TheVariants.{Sync, Ok as Accepts, No}
use Rattle.wire_json.specs.ServerText.{text}
use Rattle.room_history.specs.Outbox.{Attachment, outbox_with, attachment_of}
use Rattle.room_history.specs.Piece.{Piece, Line, Mark, End, State, Open, Ended, Closed}
use Rattle.room_history.specs.Reply.{Fate, Unheard, Goes, Turned, reply_by, created_match, named_match, looked_match, reseated_match, attached_match, fate_in, submit_reply, match_row}
use Rattle.room_history.specs.Room.{room_of}
use Rattle.room_history.specs.Session.{detach_reply}
use Rattle.room_history.specs.Showing.{update_message}
use Rattle.room_history.specs.Shown.{snapshot}
use Rattle.game_sheet.specs.Viewer.{Viewer, seat_of}
use Rattle.room_history.specs.declared.call.RoomCall.{RoomCall}
use Rattle.room_history.specs.declared.call.RoomCall.TheVariants.{Create, Join, Rename, Leave, Look, Attach, Submit, Take, Detach, Clear}
use Rattle.room_history.specs.declared.reply.RoomReply.{RoomReply}
use Rattle.room_history.specs.declared.reply.RoomReply.TheVariants as reply
use Rattle.wire_json.specs.declared.submission.Submission.{Submission}

-- how a pass's latest session stands
abbrev pub state_by : Option Bye → State
state_by None = Open
state_by (Some why) = Ended why

abbrev pub attachment_state : Option Attachment → State
attachment_state None = Closed
attachment_state (Some a) = state_by a.outbox.end

-- the reply to a Take
abbrev pub attachment_take_reply : Option Attachment → RoomReply
attachment_take_reply None = reply.NotAttached
attachment_take_reply (Some a) = reply.Taken (concat a.outbox.waiting) a.outbox.end

-- an attachment after one more piece of its stream
abbrev pub attachment_with : Piece → Option Attachment → Option Attachment
attachment_with piece None = None
attachment_with piece (Some a) = option_map (λ o. record a { outbox = o }) (outbox_with piece a.outbox)

abbrev pub attachment_after_leave : {X G : Type 0} → ℕ → Result (Match X G) RoomReply → Option Attachment → Option Attachment
attachment_after_leave seat (Err why) a = a
attachment_after_leave seat (Ok m) None = None
attachment_after_leave seat (Ok m) (Some a) = if is_left seat (is_empty m.roster) a.viewer then attachment_with (End bye.Left) (Some a) else Some a

abbrev pub attachment_after_clear : {X G : Type 0} → Result (Match X G) RoomReply → Option Attachment → Option Attachment
attachment_after_clear (Err why) a = a
attachment_after_clear (Ok m) a = attachment_with (End bye.Left) a

module _ {X G : Type 0} (rules : X → Rules G) where
  -- the message of the action that led from one match to the next, the same for all who look from one seat in one protocol
  abbrev pub update_for : Match X G → Match X G → Option ℕ → Protocol → ServerMsg
  update_for m n seat protocol = update_message protocol (rules m.game).sheet (snapshot rules m seat) (snapshot rules n seat)

  abbrev pub attachment_after_action : Match X G → Match X G → Option Attachment → Option Attachment
  attachment_after_action m n None = None
  attachment_after_action m n (Some a) = attachment_with (Line (update_for m n (seat_of a.viewer) a.protocol)) (Some a)

  -- after a submission, by what becomes of it and whether it is the attachment's own: everybody is told of an action that is accepted, and
  -- its own session of the verdict
  abbrev pub attachment_after_submission : Option (Match X G) → Fate X G → Bool → ℕ → Option Attachment → Option Attachment
  attachment_after_submission (Some m) (Goes n) own ticket a =
      if own then attachment_with (Line (Accepts (number_of m + 1) ticket)) (attachment_after_action m n a) else attachment_after_action m n a
  attachment_after_submission standing (Turned n reason) own ticket a = if own then attachment_with (Line (No n reason ticket)) a else a
  attachment_after_submission standing fate own ticket a = a

module _ {X G : Type 0} (rules : X → Rules G) (room : ℕ) where
  -- a new attachment: the sync line waits
  abbrev pub new_attachment : Viewer → Protocol → Match X G → Attachment
  new_attachment viewer protocol m = record {
    viewer = viewer;
    protocol = protocol;
    outbox = record {
      waiting = text (Sync (record { room = room; serial = m.serial }) (seat_of viewer) protocol (snapshot_data (rules m.game).sheet (snapshot rules m (seat_of viewer)))) ∷ [];
      count = 0;
      end = None;
    };
  }

  abbrev pub attachment_after_attach : Viewer → Protocol → Result (Match X G) RoomReply → Option Attachment → Option Attachment
  attachment_after_attach viewer protocol (Ok m) a = Some (new_attachment viewer protocol m)
  attachment_after_attach viewer protocol (Err why) a = a

  -- what becomes of a submission, by the attachment of the pass that makes it
  abbrev pub attachment_fate : Option (Match X G) → Option Attachment → Submission → Fate X G
  attachment_fate standing None s = Unheard
  attachment_fate standing (Some a) s = fate_in rules room standing (state_by a.outbox.end) a.viewer s

  -- what a call makes of a pass's attachment, by the attachment of the pass that makes it and whether both are one
  abbrev pub attachment_after : Option (Match X G) → Option Attachment → Bool → Option Attachment → RoomCall X → Option Attachment
  attachment_after standing caller own a (Leave serial seat key) =
      attachment_after_leave seat (reseated_match (named_match standing serial) (λ roster. leave roster seat key)) a
  attachment_after standing caller own a (Attach serial viewer protocol) =
      if own then attachment_after_attach viewer protocol (attached_match standing (attachment_state caller) serial viewer) a else a
  attachment_after standing caller own a (Submit s) = attachment_after_submission rules standing (attachment_fate standing caller s) own s.ticket a
  attachment_after standing caller own a Take = if own then attachment_with Mark a else a
  attachment_after standing caller own a Detach = if own then None else a
  attachment_after standing caller own a (Clear serial) = attachment_after_clear (named_match standing serial) a
  attachment_after standing caller own a call = a

  -- the reply to a call, by the attachment of the pass that makes it
  abbrev pub reply_held : ℕ → Option (Match X G) → Option Attachment → RoomCall X → RoomReply
  reply_held serials standing a (Create game seats seed) = reply_by (λ (m : Match X G). reply.Created m.serial) (created_match rules serials standing game seats seed)
  reply_held serials standing a (Join serial seat name key) = reply_by (λ m. reply.Joined) (reseated_match (named_match standing serial) (λ roster. join roster seat name key))
  reply_held serials standing a (Rename serial seat key name) = reply_by (λ m. reply.Renamed) (reseated_match (named_match standing serial) (λ roster. rename roster seat key name))
  reply_held serials standing a (Leave serial seat key) = reply_by (λ m. reply.Left) (reseated_match (named_match standing serial) (λ roster. leave roster seat key))
  reply_held serials standing a (Look serial) = reply_by (λ m. reply.Looked (match_row rules room m)) (looked_match standing serial)
  reply_held serials standing a (Attach serial viewer protocol) = reply_by (λ m. reply.Attached) (attached_match standing (attachment_state a) serial viewer)
  reply_held serials standing a (Submit s) = submit_reply (attachment_fate standing a s)
  reply_held serials standing a Take = attachment_take_reply a
  reply_held serials standing a Detach = detach_reply (attachment_state a)
  reply_held serials standing a (Clear serial) = reply_by (λ m. reply.Cleared) (named_match standing serial)

  -- what is held of each pass is what its latest session's stream leaves waiting
  abbrev pub HoldsSessions : List (ℕ × Attachment) → List (Entry (RoomCall X)) → Type 0
  HoldsSessions attachments h = (pass : ℕ) → lookup (nat_eq pass) attachments ≡ attachment_of ((room_of rules room h).sessions pass)
