-- What rooms reply to a Take and to a Detach of a pass that is attached.
use Rattle.std.proofs.Common.{◌≡◌, ℕ, true, false, is_some, List, [], ◌∷◌, Option, Some, None, option_map, refl, sym, ap, ◌∙◌, subst}
use Rattle.game_hall.specs.Answers.{line_of, message_of}
use Rattle.game_hall.specs.Core.{text_said}
use Rattle.game_hall.specs.declared.answer.Answer.{Answer}
use Rattle.game_trait.specs.Rules.{Rules}
use Rattle.board_links.specs.Answers.{AreLines}
use Rattle.room_history.proofs.Attachments.{reply_by_held}
use Rattle.room_history.specs.Held.{attachment_state, attachment_take_reply, state_by}
use Rattle.wire_json.specs.declared.server.ServerMsg.{ServerMsg}
use Rattle.wire_json.specs.ServerText.{text, server_members}
use Rattle.room_history.specs.Outbox.{Attachment, attachment_of, outbox_in, with_outbox}
use Rattle.room_history.specs.Piece.{End, Line, Mark, Piece, State, Open, Ended, Closed, waiting_lines}
use Rattle.room_history.specs.Presence.{after_release, is_attached}
use Rattle.room_history.specs.Room.{reply, room_of}
use Rattle.room_history.specs.Session.{Session, detach_reply, session_state, stream_of}
use Rattle.room_history.specs.declared.call.RoomCall.{RoomCall}
use Rattle.room_history.specs.declared.call.RoomCall.TheVariants as call
use Rattle.room_object.specs.Entry.{Entry, entry}
use Rattle.serde_json.specs.Data.{object}
use Rattle.serde_json.specs.Written.{compact_text}
use Rattle.wire_json.specs.ServerText.{server_members, text}
use Rattle.session_pool.specs.Lines.{AreWhole, EachIsLine}
use Rattle.session_pool.specs.Taken.{IsTaken}
use Rattle.session_pool.proofs.Lines.{concat_whole, lines_whole, one_more_line}

-- ---- lines

message_is_line : (m : ServerMsg) → AreLines (text m)
unfolding text
message_is_line m = (compact_text (object (server_members m)), refl)

text_is_line : (m : ServerMsg) → AreLines (text m)
unfolding text
text_is_line m = (compact_text (object (server_members m)), refl)

-- a direct answer is one line
pub answer_whole : (said : Option Answer) → AreWhole (text_said said)
answer_whole None = tt
answer_whole (Some a) = lines_whole (line_of a) (text_is_line (message_of a))

waiting_are_lines : (pieces : List Piece) → EachIsLine (waiting_lines pieces)
waiting_are_lines [] = tt
waiting_are_lines (Line m ∷ pieces) = one_more_line (waiting_lines pieces) (text m) (waiting_are_lines pieces) (message_is_line m)
waiting_are_lines (Mark ∷ pieces) = tt
waiting_are_lines (End why ∷ pieces) = waiting_are_lines pieces

-- ---- Takes and Detaches of a pass that is attached

false_true : false ≡ true → ⊥
false_true e = cc

taken_in : (s : Session) (st : State) (pieces : List Piece) → is_some (option_map (with_outbox s) (outbox_in st pieces)) ≡ true
    → IsTaken (attachment_take_reply (option_map (with_outbox s) (outbox_in st pieces)))
taken_in s Open pieces e = concat_whole (waiting_lines pieces) (waiting_are_lines pieces)
taken_in s (Ended why) pieces e = concat_whole (waiting_lines pieces) (waiting_are_lines pieces)
taken_in s Closed pieces e = absurd (false_true e)

taken_of : (sessions : List Session) → is_some (attachment_of sessions) ≡ true → IsTaken (attachment_take_reply (attachment_of sessions))
taken_of [] e = absurd (false_true e)
taken_of (s ∷ before) e = taken_in s (session_state s) (stream_of s) e

freed_by : (a : Option Attachment) → is_some a ≡ true → after_release true (detach_reply (attachment_state a)) ≡ false
freed_by None e = absurd (false_true e)
freed_by (Some a) e = by a.outbox.end
  where
    by : (end : Option _) → after_release true (detach_reply (state_by end)) ≡ false
    by None = refl
    by (Some why) = refl

module _ {X G : Type 0} (rules : X → Rules G) (room : ℕ) where
  pub take_taken : (h : List (Entry (RoomCall X))) (p : ℕ) → is_attached rules room h p ≡ true → IsTaken (reply rules room h (entry p call.Take false))
  take_taken h p e = subst IsTaken (sym (reply_by_held rules room h p call.Take)) (taken_of ((room_of rules room h).sessions p) e)

  pub detach_frees : (h : List (Entry (RoomCall X))) (p : ℕ) → is_attached rules room h p ≡ true → after_release true (reply rules room h (entry p call.Detach false)) ≡ false
  detach_frees h p e = ap (λ r. after_release true r) (reply_by_held rules room h p call.Detach) ∙ freed_by (attachment_of ((room_of rules room h).sessions p)) e
