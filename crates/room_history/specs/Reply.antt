-- What each call finds of a room's match, or why it is refused; and what becomes of a submission.
use Rattle.std.specs.Prelude.{ℕ, ◌+◌, ◌==◌, List, [], ◌∷◌, Bool, true, ◌&&◌, if◌then◌else◌, nat_le, is_some, Option, Some, None, Result, Ok, Err}
use Rattle.game_trait.specs.Rules.{Rules}
use Rattle.game_sheet.specs.declared.refusal.GameRule.{GameRule}
use Rattle.game_sheet.specs.declared.sheet.Sheet.{Sheet}
use Rattle.phase_flow.specs.Action.{begin}
use Rattle.phase_flow.specs.Reached.{Reached}
use Rattle.seat_roster.specs.Player.{Seats}
use Rattle.seat_roster.specs.Roster.{free_seats, key_fits, public_rows}
use Rattle.seat_roster.specs.declared.refusal.RosterNo.{RosterNo}
use Rattle.seat_roster.specs.declared.refusal.RosterNo.TheVariants as rule
use Rattle.wire_json.specs.declared.match_row.MatchRow.{MatchRow}
use Rattle.wire_json.specs.declared.reason.Reason.{Reason}
use Rattle.wire_json.specs.declared.verdict.Verdict.TheVariants as verdict
use Rattle.room_history.specs.Item.{GameAnswer, Unasked, Accepted, Refused}
use Rattle.room_history.specs.Match.{Match, number_of, table_of}
use Rattle.room_history.specs.Piece.{State, Open, Closed}
use Rattle.room_history.specs.Session.{Session, session_state}
use Rattle.room_history.specs.Verdict.{first_reason, public_reason, game_reason, match_accepting}
use Rattle.game_sheet.specs.Viewer.{Viewer}
use Rattle.room_history.specs.declared.reply.RoomReply.{RoomReply}
use Rattle.room_history.specs.declared.reply.RoomReply.TheVariants as reply
use Rattle.wire_json.specs.declared.submission.Submission.{Submission}
use Rattle.std.specs.Option.{option_map_or}
use Rattle.std.specs.Result.{result_map_both}

-- the greatest serial
abbrev pub last_serial : ℕ
last_serial = 18446744073709551615

abbrev pub seats_fit : Sheet → ℕ → Bool
seats_fit sheet seats = nat_le sheet.min_seats seats && nat_le seats sheet.max_seats

-- a call's reply, where it isn't refused
abbrev pub reply_by : {A : Type 0} → (A → RoomReply) → Result A RoomReply → RoomReply
reply_by said (Ok x) = said x
reply_by said (Err why) = why

module _ {X G : Type 0} (rules : X → Rules G) where
  abbrev pub new_match : ℕ → X → ℕ → List ℕ → Result (Reached G) GameRule → Result (Match X G) RoomReply
  new_match serial game seats seed (Ok first) =
      Ok (record { game = game; seats = seats; seed = seed; serial = serial; first = first; accepted = []; roster = free_seats seats })
  new_match serial game seats seed (Err why) = Err reply.NoStart

  -- the match that a Create makes
  abbrev pub created_match : ℕ → Option (Match X G) → X → ℕ → List ℕ → Result (Match X G) RoomReply
  created_match serials (Some m) game seats seed = Err reply.Busy
  created_match serials None game seats seed = if serials == last_serial then Err reply.Busy
      else (if seats_fit (rules game).sheet seats then new_match (serials + 1) game seats seed (begin (rules game) seats seed) else Err reply.BadSeats)

-- the match that is named, if it stands
abbrev pub named_match : {X G : Type 0} → Option (Match X G) → ℕ → Result (Match X G) RoomReply
named_match standing serial = option_map_or (λ m. if m.serial == serial then Ok m else Err reply.NoMatch) standing (Err reply.NoMatch)

-- the match that a Look shows: the one that is named, or whichever stands
abbrev pub looked_match : {X G : Type 0} → Option (Match X G) → Option ℕ → Result (Match X G) RoomReply
looked_match standing serial = option_map_or (λ m. option_map_or (named_match (Some m)) serial (Ok m)) standing (Err reply.NoMatch)

abbrev pub roster_reply : RosterNo → RoomReply
roster_reply rule.NoSeat = reply.NoSeat
roster_reply rule.SeatTaken = reply.SeatTaken
roster_reply rule.BadName = reply.BadName
roster_reply rule.Unauthorized = reply.Unauthorized

-- the match that is named, with other players at its seats, as a Join, a Rename and a Leave make it
abbrev pub reseated_match : {X G : Type 0} → Result (Match X G) RoomReply → (Seats → Result Seats RosterNo) → Result (Match X G) RoomReply
reseated_match (Ok m) change = result_map_both (λ seats. record m { roster = seats }) roster_reply (change m.roster)
reseated_match (Err why) change = Err why

-- who may look at a match: a player shows the key of the seat, a spectator needs none
abbrev pub open_match : {X G : Type 0} → Viewer → Result (Match X G) RoomReply → Result (Match X G) RoomReply
open_match viewer (Ok m) = if option_map_or (λ claim. key_fits m.roster claim.0 claim.1) viewer true then Ok m else Err reply.Unauthorized
open_match viewer (Err why) = Err why

-- the match that an Attach lets the viewer look at, by how the pass's latest session stands
abbrev pub attached_match : {X G : Type 0} → Option (Match X G) → State → ℕ → Viewer → Result (Match X G) RoomReply
attached_match standing Closed serial viewer = open_match viewer (named_match standing serial)
attached_match standing state serial viewer = Err reply.AlreadyAttached

-- what becomes of a submission: nobody hears it, or it is refused at a number, or the match goes on
pub data Fate (X G : Type 0) : Type 0 where
  Unheard : Fate X G
  Turned : ℕ → Reason → Fate X G
  Goes : Match X G → Fate X G

abbrev pub submit_reply : {X G : Type 0} → Fate X G → RoomReply
submit_reply Unheard = reply.NotAttached
submit_reply (Turned n reason) = reply.Verdict (verdict.No n reason)
submit_reply (Goes m) = reply.Verdict (verdict.Ok (number_of m))

module _ {X G : Type 0} (rules : X → Rules G) (room : ℕ) where
  -- a session that goes on is heard by the match that stands
  abbrev pub fate_in : Option (Match X G) → State → Viewer → Submission → Fate X G
  fate_in (Some m) Open viewer s = option_map_or (Turned (number_of m)) (first_reason rules room m viewer s) (Goes (match_accepting rules m viewer s))
  fate_in standing state viewer s = Unheard

  abbrev pub fate : Option (Match X G) → List Session → Submission → Fate X G
  fate standing [] s = Unheard
  fate standing (c ∷ before) s = fate_in standing (session_state c) c.viewer s

  -- the game's answer to a session's submission; it is asked where no public rule is broken
  abbrev pub game_answer : Option (Match X G) → State → Viewer → Submission → GameAnswer
  game_answer (Some m) Open viewer s =
      option_map_or (λ reason. Unasked) (public_reason rules room m viewer s) (option_map_or Refused (game_reason rules m viewer s) Accepted)
  game_answer standing state viewer s = Unasked

  -- what everybody may see of a match
  abbrev pub match_row : Match X G → MatchRow
  match_row m = record {
    game = (rules m.game).sheet.name;
    name = record { room = room; serial = m.serial };
    over = is_some (table_of rules m).ctx.over;
    players = public_rows m.roster;
  }
