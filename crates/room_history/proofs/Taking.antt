-- What Take, Detach, Leave and Attach make of what is kept, and that a Take's reply is what is kept.
use Rattle.std.proofs.Common.{◌≡◌, ℕ, Bool, true, false, ◌&&◌, if◌then◌else◌, List, [], ◌∷◌, ◌++◌, Option, Some, None, Ok, option_map, refl, ap, ◌∙◌}
use Rattle.game_trait.specs.Rules.{Rules}
use Rattle.game_sheet.specs.declared.act.Bye.TheVariants as bye
use Rattle.seat_roster.specs.Roster.{is_empty}
use Rattle.wire_json.specs.declared.protocol.Protocol.{Protocol}
use Rattle.room_history.specs.Course.{SameView}
use Rattle.room_history.specs.Does.{is_left, new_session, left_where}
use Rattle.room_history.specs.Held.{attachment_after_leave, attachment_state, attachment_take_reply, attachment_with, new_attachment}
use Rattle.room_history.specs.Item.{Left, Took}
use Rattle.room_history.specs.Match.{Match}
use Rattle.room_history.specs.Outbox.{Outbox, attachment_of, outbox_in, outbox_of, with_outbox, with_piece_in}
use Rattle.room_history.specs.Piece.{Closed, End, Ended, Mark, Open, Piece, State}
use Rattle.room_history.specs.Session.{Session, handful, is_detached, is_looking, latest_state, latest_take_reply, number_in, session_state, stream_of, take_reply_in, with_latest}
use Rattle.room_history.proofs.Names.{after_leaving, after_detach, after_take}
use Rattle.room_history.specs.Stream.{stream}
use Rattle.game_sheet.specs.Viewer.{Viewer}
use Rattle.room_history.proofs.Holding.{take_kept, detach_kept, leave_kept as left_session}
use Rattle.room_history.proofs.Keeps.{Listed}
use Rattle.room_history.proofs.Sessions.{plus_item}
use Rattle.room_history.proofs.Submitting.{kept_face, gained}

-- the state, and a Take's reply, by what is kept
state_same : (s : Session) (st : State) (ps : List Piece) → attachment_state (option_map (with_outbox s) (outbox_in st ps)) ≡ st
state_same s Open ps = refl
state_same s (Ended why) ps = refl
state_same s Closed ps = refl

pub state_is : (l : List Session) → attachment_state (attachment_of l) ≡ latest_state l
state_is [] = refl
state_is (s ∷ before) = state_same s (session_state s) (stream_of s)

reply_same : (s : Session) (st : State) (ps : List Piece) → attachment_take_reply (option_map (with_outbox s) (outbox_in st ps)) ≡ take_reply_in st ps
reply_same s Open ps = refl
reply_same s (Ended why) ps = refl
reply_same s Closed ps = refl

pub reply_is : (l : List Session) → attachment_take_reply (attachment_of l) ≡ latest_take_reply l
reply_is [] = refl
reply_is (s ∷ before) = reply_same s (session_state s) (stream_of s)

takes_faces : (s : Session) → SameView s (after_take s)
takes_faces s = by (is_detached s.own) (s.sent ++ handful s)
  where
    by : (b : Bool) (sent : List (List ℕ)) → SameView s (if b then record s { sent = sent } else plus_item (record s { sent = sent }) (Took (number_in s.sight)))
    by true sent = record { name = refl; sheet = refl; viewer = refl; protocol = refl }
    by false sent = record { name = refl; sheet = refl; viewer = refl; protocol = refl }

module _ {X G : Type 0} (rules : X → Rules G) (room : ℕ) where
  pub taken_held : (st : Option (Match X G)) (l : List Session) → Listed rules room st l → attachment_of (with_latest after_take l) ≡ attachment_with Mark (attachment_of l)
  taken_held st [] k = refl
  taken_held st (s ∷ before) k = kept_face s (after_take s) (takes_faces s) (outbox_of (after_take s)) ∙ ap (option_map (with_outbox s)) (take_kept s k.good) ∙ gained s Mark (outbox_of s)

  pub detached_held : (l : List Session) → attachment_of (with_latest (after_detach) l) ≡ None
  detached_held [] = refl
  detached_held (s ∷ before) = ap (option_map (with_outbox (after_detach s))) (detach_kept rules room s)

  leaves_faces : (seat : ℕ) (gone : Bool) (s : Session) → SameView s (after_leaving seat gone s)
  leaves_faces seat gone s = by (is_looking s.own && is_left seat gone s.viewer)
    where
      by : (b : Bool) → SameView s (if b then plus_item s (Left (number_in s.sight)) else s)
      by true = record { name = refl; sheet = refl; viewer = refl; protocol = refl }
      by false = record { name = refl; sheet = refl; viewer = refl; protocol = refl }

  left_by : (s : Session) (m : Match X G) (seat : ℕ) (b : Bool) (o : Option Outbox) → is_left seat (is_empty m.roster) s.viewer ≡ b
      → option_map (with_outbox s) (if is_left seat (is_empty m.roster) s.viewer then with_piece_in (End bye.Left) o else o) ≡ attachment_after_leave seat (Ok m) (option_map (with_outbox s) o)
  left_by s m seat true None e = rw e refl
  left_by s m seat false None e = rw e refl
  left_by s m seat true (Some o) e = rw e (gained s (End bye.Left) (Some o))
  left_by s m seat false (Some o) e = rw e refl

  pub left_held : (st : Option (Match X G)) (l : List Session) (m : Match X G) (seat : ℕ) → Listed rules room st l → attachment_of (with_latest (after_leaving seat (is_empty m.roster)) l) ≡ attachment_after_leave seat (Ok m) (attachment_of l)
  left_held st [] m seat k = refl
  left_held st (s ∷ before) m seat k =
      kept_face s (after_leaving seat (is_empty m.roster) s) (leaves_faces seat (is_empty m.roster) s) (outbox_of (after_leaving seat (is_empty m.roster) s))
      ∙ ap (option_map (with_outbox s)) (left_session rules room seat (is_empty m.roster) s k.good)
      ∙ left_by s m seat (is_left seat (is_empty m.roster) s.viewer) (outbox_of s) refl

  pub cleared_held : (st : Option (Match X G)) (l : List Session) → Listed rules room st l → attachment_of (with_latest (left_where true) l) ≡ attachment_with (End bye.Left) (attachment_of l)
  cleared_held st [] k = refl
  cleared_held st (s ∷ before) k =
      kept_face s (left_where true s) (leaves_faces 0 true s) (outbox_of (left_where true s)) ∙ ap (option_map (with_outbox s)) (left_session rules room 0 true s k.good) ∙ gained s (End bye.Left) (outbox_of s)

  pub begun_held : (m : Match X G) (viewer : Viewer) (protocol : Protocol) (before : List Session) → attachment_of (new_session rules room m viewer protocol ∷ before) ≡ Some (new_attachment rules room viewer protocol m)
  unfolding stream
  begun_held m viewer protocol before = refl
