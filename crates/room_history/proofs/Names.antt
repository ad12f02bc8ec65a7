-- Names of what `specs/` write out where it stands.
use Rattle.std.specs.Prelude.{◌≡◌, ◌⊎◌, ◌==◌, ℕ, List, ◌∷◌, ◌++◌, [], Bool, true, if◌then◌else◌, find, Option, Result}
use Rattle.std.specs.Option.{option_map_or}
use Rattle.std.specs.Result.{result_map_both}
use Rattle.game_sheet.specs.Viewer.{Viewer, seat_of}
use Rattle.game_sheet.specs.declared.act.Bye.{Bye}
use Rattle.game_sheet.specs.declared.act.Bye.TheVariants as bye
use Rattle.game_trait.specs.Rules.{Rules}
use Rattle.seat_roster.specs.Player.{Seats}
use Rattle.seat_roster.specs.Roster.{key_fits}
use Rattle.seat_roster.specs.declared.refusal.RosterNo.{RosterNo}
use Rattle.wire_json.specs.ServerText.{text}
use Rattle.wire_json.specs.declared.reason.Reason.{Reason}
use Rattle.wire_json.specs.declared.server.ServerMsg.{ServerMsg}
use Rattle.wire_json.specs.declared.server.ServerMsg.TheVariants.{Bye as Farewell}
use Rattle.wire_json.specs.declared.submission.Submission.{Submission}
use Rattle.room_history.specs.Does.{is_left, left_where}
use Rattle.room_history.specs.Item.{GameAnswer, Accepted, Refused, Submitted, Took, Detached, Starved}
use Rattle.room_history.specs.Match.{Match, number_of}
use Rattle.room_history.specs.Piece.{Piece, Line, End, message_lines_to_mark}
use Rattle.room_history.specs.Reply.{Fate, Turned, Goes, roster_reply}
use Rattle.room_history.specs.Session.{Session, handful, is_looking, number_in, session_state, stream_of, take_reply_in, with_item}
use Rattle.room_history.specs.Shown.{snapshot}
use Rattle.room_history.specs.Verdict.{match_accepting}
use Rattle.room_history.specs.declared.reply.RoomReply.{RoomReply}

abbrev pub with_roster : {X G : Type 0} → Match X G → Result Seats RosterNo → Result (Match X G) RoomReply
with_roster m result = result_map_both (λ seats. record m { roster = seats }) roster_reply result

abbrev pub lets_in : Seats → Viewer → Bool
lets_in roster viewer = option_map_or (λ claim. key_fits roster claim.0 claim.1) viewer true

abbrev pub answer_by : Option Reason → GameAnswer
answer_by broken = option_map_or Refused broken Accepted

abbrev pub after_leaving : ℕ → Bool → Session → Session
after_leaving seat removed s = left_where (is_left seat removed s.viewer) s

abbrev pub after_take : Session → Session
after_take s = with_item (Took (number_in s.sight)) (record s { sent = s.sent ++ handful s })

abbrev pub after_detach : Session → Session
after_detach s = with_item (Detached (number_in s.sight)) s

abbrev pub take_reply : Session → RoomReply
take_reply s = take_reply_in (session_state s) (stream_of s)

abbrev pub match_in : {X G : Type 0} → ℕ → List (Match X G) → Option (Match X G)
match_in serial matches = find (λ m. m.serial == serial) matches

abbrev pub all_matches : {X G : Type 0} → Option (Match X G) → List (Match X G) → List (Match X G)
all_matches standing removed = option_map_or (λ m. m ∷ removed) standing removed

abbrev pub line_or_end : Bool → ServerMsg → List Piece → List Piece
line_or_end is_full message pieces = if is_full then End bye.Lagging ∷ pieces else Line message ∷ pieces

abbrev pub IsInOrder : Session → Type 0
IsInOrder s = (s.sent ≡ message_lines_to_mark (stream_of s)) ⊎ ((why : Bye) × (s.sent ≡ message_lines_to_mark (stream_of s) ++ text (Farewell why) ∷ []))

module _ {X G : Type 0} (rules : X → Rules G) (room : ℕ) where
  abbrev pub fate_by : Match X G → Viewer → Submission → Option Reason → Fate X G
  fate_by m viewer s broken = option_map_or (Turned (number_of m)) broken (Goes (match_accepting rules m viewer s))

  abbrev pub after_action : Match X G → Session → Session
  after_action m s = if is_looking s.own then record s { sight = snapshot rules m (seat_of s.viewer) ∷ s.sight } else s

  abbrev pub after_want : Submission → Session → Session
  after_want s c = with_item (Submitted (number_in c.sight) s Starved) c
