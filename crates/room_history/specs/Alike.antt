-- Sessions that are alike: they look at matches of one name and of equal sheets, as the same viewer with the same key, in the same
-- protocol, were shown the same, and did the same at the same state numbers. Nothing is said of the games, the seeds, the other seats'
-- keys and what others did.
use Rattle.std.specs.Prelude.{◌≡◌, ◌⊎◌, List, [], ◌∷◌}
use Rattle.game_sheet.specs.declared.act.Bye.TheVariants.{Lagging}
use Rattle.room_history.specs.Course.{IsFirstPart}
use Rattle.room_history.specs.Item.{without_takes}
use Rattle.room_history.specs.Piece.{Piece, End, all_lines, message_lines, message_lines_to_mark}
use Rattle.room_history.specs.Session.{Session, stream_of}
use Rattle.room_history.specs.declared.call.RoomCall.{RoomCall}
use Rattle.room_history.specs.declared.call.RoomCall.TheVariants.{Submit, Take, Detach}
use Rattle.wire_json.specs.declared.submission.Submission.{Submission}

pub record SeeAlike (s t : Session) : Type 0 where
  pub name : s.name ≡ t.name
  pub sheet : s.sheet ≡ t.sheet
  pub viewer : s.viewer ≡ t.viewer
  pub protocol : s.protocol ≡ t.protocol
  pub sight : s.sight ≡ t.sight

pub record AreAlike (s t : Session) : Type 0 where
  pub see : SeeAlike s t
  pub own : s.own ≡ t.own

pub record AreAlikeButForTakes (s t : Session) : Type 0 where
  pub see : SeeAlike s t
  pub own : without_takes s.own ≡ without_takes t.own

-- a stream that doesn't end by lagging
abbrev pub NotLagging : List Piece → Type 0
NotLagging [] = Unit {0}
NotLagging (End Lagging ∷ pieces) = ⊥
NotLagging (piece ∷ pieces) = NotLagging pieces

-- bye lines aside, the lines of one stream are a first part of the other's, and so is what was sent; where neither lags, all are equal
pub record AreToldAlike (s t : Session) : Type 0 where
  pub stream : IsFirstPart (message_lines (stream_of s)) (message_lines (stream_of t)) ⊎ IsFirstPart (message_lines (stream_of t)) (message_lines (stream_of s))
  pub sent : IsFirstPart (message_lines_to_mark (stream_of s)) (message_lines_to_mark (stream_of t)) ⊎ IsFirstPart (message_lines_to_mark (stream_of t)) (message_lines_to_mark (stream_of s))
  pub whole : NotLagging (stream_of s) → NotLagging (stream_of t) → all_lines (stream_of s) ≡ all_lines (stream_of t)

-- a session's own calls, of whatever game its room is
pub data OwnCall : Type 0 where
  OwnSubmit : Submission → OwnCall
  OwnTake : OwnCall
  OwnDetach : OwnCall

abbrev pub own_call : {X : Type 0} → OwnCall → RoomCall X
own_call (OwnSubmit s) = Submit s
own_call OwnTake = Take
own_call OwnDetach = Detach
