-- A submission is judged by the snapshot that its session was shown last, by the key and the line, and by the game's answer alone.
use Rattle.std.specs.Prelude.{◌≡◌, ◌+◌, ℕ, List, false, Option, Some, None}
use Rattle.game_trait.specs.Rules.{Rules}
use Rattle.player_sight.specs.SnapshotData.{Snap}
use Rattle.room_object.specs.Entry.{Entry, entry}
use Rattle.wire_json.specs.declared.reason.Reason.{Reason}
use Rattle.wire_json.specs.declared.verdict.Verdict.TheVariants as verdict
use Rattle.room_history.specs.Item.{GameAnswer, Accepted, Refused}
use Rattle.room_history.specs.Match.{Match, number_of}
use Rattle.room_history.specs.Piece.{State, Open}
use Rattle.room_history.specs.Reply.{game_answer}
use Rattle.room_history.specs.Room.{standing, reply}
use Rattle.room_history.specs.Session.{Session, session_state, number_in}
use Rattle.room_history.specs.Showing.{showings, snapshot_of_number}
use Rattle.room_history.specs.Stream.{public_reason_on}
use Rattle.room_history.specs.Verdict.{public_reason}
use Rattle.room_history.specs.declared.call.RoomCall.{RoomCall}
use Rattle.room_history.specs.declared.call.RoomCall.TheVariants.{Submit}
use Rattle.room_history.specs.declared.reply.RoomReply.{RoomReply}
use Rattle.room_history.specs.declared.reply.RoomReply.TheVariants as answer
use Rattle.wire_json.specs.declared.submission.Submission.{Submission}

-- the verdict at a state number, by the public rule that is broken and the game's answer
abbrev pub verdict_by : ℕ → Option Reason → GameAnswer → RoomReply
verdict_by n (Some reason) game = answer.Verdict (verdict.No n reason)
verdict_by n None Accepted = answer.Verdict (verdict.Ok (n + 1))
verdict_by n None (Refused reason) = answer.Verdict (verdict.No n reason)
verdict_by n None other = answer.NotAttached

-- a session that has ended is not heard
abbrev pub verdict_in : State → ℕ → Option Reason → GameAnswer → RoomReply
verdict_in Open n public game = verdict_by n public game
verdict_in state n public game = answer.NotAttached

-- the snapshot of the number at which a session stands
abbrev pub present_snapshot : Session → Option Snap
present_snapshot s = snapshot_of_number (number_in s.sight) (showings s.name s.sheet s.viewer s.protocol s.sight)

-- the public rule that a session's submission breaks, as its stream finds it
abbrev pub reason_seen : Session → Submission → Option Reason
reason_seen s sub = public_reason_on s.name s.sheet s.viewer (present_snapshot s) sub

module _ {X G : Type 0} (rules : X → Rules G) (room : ℕ) where
  -- a session that looks is shown the match that stands as it is, and finds the rule that the whole state finds
  pub record SeesPresent (h : List (Entry (RoomCall X))) (s : Session) : Type 0 where
    pub m : Match X G
    pub stands : standing rules room h ≡ Some m
    pub number : number_in s.sight ≡ number_of m
    pub reason : (sub : Submission) → reason_seen s sub ≡ public_reason rules room m s.viewer sub

  -- so a submission is replied by what the session sees and the game answers
  abbrev pub IsJudged : List (Entry (RoomCall X)) → ℕ → Session → Type 0
  IsJudged h pass s = (sub : Submission) → reply rules room h (entry pass (Submit sub) false)
      ≡ verdict_in (session_state s) (number_in s.sight) (reason_seen s sub) (game_answer rules room (standing rules room h) (session_state s) s.viewer sub)
