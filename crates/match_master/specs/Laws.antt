-- What a call on a Book means for the sessions of its room.
use Rattle.std.specs.Prelude.{◌≡◌, ◌≢◌, ◌++◌, ◌∷◌, [], ℕ, List, if◌then◌else◌, MatchBool, nat_eq, Option, Some, None}
use Rattle.std.specs.List.{concat}
use Rattle.std.specs.Map.{lookup}
use Rattle.game_trait.specs.Rules.{Rules}
use Rattle.room_object.specs.Entry.{Entry, entry}
use Rattle.wire_json.specs.declared.submission.Submission.{Submission}
use Rattle.room_history.specs.Alike.{AreAlike, AreAlikeButForTakes, AreToldAlike, OwnCall, own_call}
use Rattle.room_history.specs.Course.{GoesOn}
use Rattle.room_history.specs.Judgment.{reason_seen, verdict_in}
use Rattle.room_history.specs.Others.{KeepsOthers}
use Rattle.room_history.specs.Reply.{game_answer}
use Rattle.room_history.specs.Room.{latest_session, reply, room_of, session, standing}
use Rattle.room_history.specs.Sent.{IsToldOf, is_take_of}
use Rattle.room_history.specs.Session.{Session, bytes_handed_out, number_in, session_state}
use Rattle.room_history.specs.declared.call.RoomCall.{RoomCall}
use Rattle.room_history.specs.declared.call.RoomCall.TheVariants.{Submit, Take, Detach}
use Rattle.room_history.specs.declared.reply.RoomReply.{RoomReply}
use Rattle.match_master.specs.Held.{is_starved}

-- a call that was replied so after a history
module _ {X G : Type 0} (rules : X → Rules G) (room : ℕ) (h : List (Entry (RoomCall X))) (pass : ℕ) (call : RoomCall X) (result : RoomReply) where
  abbrev pub made : Entry (RoomCall X)
  made = entry pass call (is_starved result)

  -- what a session was sent before, and what the call adds: what its Take was replied; a session that it begins was sent nothing
  abbrev pub IsSentBy : ℕ → ℕ → Option Session → Session → Type 0
  IsSentBy q j None t = t.sent ≡ []
  IsSentBy q j (Some s) t = concat t.sent ≡ concat s.sent ++ (if is_take_of rules room h made q j then bytes_handed_out result else [])

  -- every session goes on as the one that it was, was sent a first part of its stream, and is sent what its Takes are replied
  pub record TellsStreams : Type 0 where
    pub goes_on : (q j : ℕ) (s : Session) → session rules room h q j ≡ Some s → (t : Session) × (session rules room (made ∷ h) q j ≡ Some t) × GoesOn s t
    pub told : (q j : ℕ) (t : Session) → session rules room (made ∷ h) q j ≡ Some t → IsToldOf t
    pub sent : (q j : ℕ) (t : Session) → session rules room (made ∷ h) q j ≡ Some t → IsSentBy q j (session rules room h q j) t

  -- a submission is judged by the snapshot that its session was shown last, its key, the line and the game's answer alone
  abbrev pub JudgesBySight : RoomCall X → Type 0
  JudgesBySight (Submit s) = (c : Session) → latest_session rules room h pass ≡ Some c → MatchBool (is_starved result) (Unit {0})
      (result ≡ verdict_in (session_state c) (number_in c.sight) (reason_seen c s) (game_answer rules room (standing rules room h) (session_state c) c.viewer s))
  JudgesBySight other = Unit {0}

  -- whatever room a session is in, one that is alike was sent the same; one that is alike but for Takes was told a first part of it, or more
  pub record TellsAlike : Type 0 where
    pub sent : (q j : ℕ) (s : Session) → session rules room (made ∷ h) q j ≡ Some s
        → (other : ℕ) (k : List (Entry (RoomCall X))) (p i : ℕ) (t : Session) → session rules other k p i ≡ Some t → AreAlike s t → s.sent ≡ t.sent
    pub told : (q j : ℕ) (s : Session) → session rules room (made ∷ h) q j ≡ Some s
        → (other : ℕ) (k : List (Entry (RoomCall X))) (p i : ℕ) (t : Session) → session rules other k p i ≡ Some t → AreAlikeButForTakes s t → AreToldAlike s t
    -- and where both have done the same after a call of their own, both were replied the same
    pub replied : (own : OwnCall) → call ≡ own_call own → (s after : Session) → latest_session rules room h pass ≡ Some s → latest_session rules room (made ∷ h) pass ≡ Some after
        → (other : ℕ) (k : List (Entry (RoomCall X))) (p : ℕ) (t later : Session) → latest_session rules other k p ≡ Some t → latest_session rules other (entry p call (is_starved result) ∷ k) p ≡ Some later
        → AreAlike s t → after.own ≡ later.own → result ≡ reply rules other k (entry p call (is_starved result))

  -- a Take and a Detach leave the matches and every other pass as they were
  abbrev pub LeavesOthers : RoomCall X → Type 0
  LeavesOthers Take = KeepsOthers pass (room_of rules room h) (room_of rules room (made ∷ h))
  LeavesOthers Detach = KeepsOthers pass (room_of rules room h) (room_of rules room (made ∷ h))
  LeavesOthers other = Unit {0}
