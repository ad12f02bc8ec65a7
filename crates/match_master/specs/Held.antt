-- What a Book holds, and when that is what a history gives.
use Rattle.std.specs.Prelude.{◌≡◌, ◌≤◌, ℕ, List, Bool, true, false, Option, Some, None, option_map}
use Rattle.game_trait.specs.Rules.{Rules}
use Rattle.reducer.specs.Fold.{standing as standing_at}
use Rattle.reducer.specs.Sound.{IsSound}
use Rattle.room_object.specs.Entry.{Entry}
use Rattle.room_history.specs.Held.{HoldsSessions}
use Rattle.room_history.specs.Match.{Match}
use Rattle.room_history.specs.Outbox.{Attachment}
use Rattle.room_history.specs.Room.{serials, standing}
use Rattle.room_history.specs.Shown.{log_of}
use Rattle.room_history.specs.declared.call.RoomCall.{RoomCall}
use Rattle.room_history.specs.declared.call.RoomCall.TheVariants.{Join, Rename, Leave, Take, Detach, Clear}
use Rattle.room_history.specs.declared.reply.RoomReply.{RoomReply}
use Rattle.room_history.specs.declared.reply.RoomReply.TheVariants as answer
use Rattle.match_master.specs.declared.running_match.RunningMatch.{RunningMatch}

pub record Held (X G : Type 0) : Type 0 where
  pub room : ℕ
  pub serials : ℕ
  pub running : Option (RunningMatch X G)
  -- by pass
  pub attachments : List (ℕ × Attachment)

-- whether a reply is want of memory
abbrev pub is_starved : RoomReply → Bool
is_starved answer.NoMemory = true
is_starved other = false

-- whether a call may be answered by want of memory
abbrev pub may_starve : {X : Type 0} → RoomCall X → Bool
may_starve (Join serial seat name key) = false
may_starve (Rename serial seat key name) = false
may_starve (Leave serial seat key) = false
may_starve Take = false
may_starve Detach = false
may_starve (Clear serial) = false
may_starve other = true

module _ {X G : Type 0} (rules : X → Rules G) where
  -- what holds of each match that stands
  pub record IsRunning (r : RunningMatch X G) : Type 0 where
    pub sound : IsSound (rules r.game) r.state
    pub serial : 1 ≤ r.serial

  abbrev pub IsInOrder : Option (RunningMatch X G) → Type 0
  IsInOrder None = Unit {0}
  IsInOrder (Some r) = IsRunning r

  -- what is held of a match
  abbrev pub running_of : Match X G → RunningMatch X G
  running_of m = record { game = m.game; seats = m.seats; serial = m.serial; state = standing_at (rules m.game) m.first m.accepted; log = log_of rules m; roster = m.roster }

-- a Book stands for a history of its room: it holds how many matches the history made, the match that stands by it, and of each pass what
-- its latest session's stream leaves waiting
pub record StandsFor {X G : Type 0} (rules : X → Rules G) (held : Held X G) (h : List (Entry (RoomCall X))) : Type 0 where
  pub serials_held : held.serials ≡ serials rules held.room h
  pub match_held : held.running ≡ option_map (running_of rules) (standing rules held.room h)
  pub sessions_held : HoldsSessions rules held.room held.attachments h
