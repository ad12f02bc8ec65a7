-- What a step makes of a hall over a kept room: which calls it made, and that the history of the hall's room grew by these.
use Rattle.std.specs.Prelude.{ℕ, List, Bool, Option, Result, IfOk, OnOk}
use Rattle.any_game.specs.AnyRules.{any_rules, named}
use Rattle.any_game.specs.GameKind.{GameKind}
use Rattle.game_sheet.specs.MatchName.{Name}
use Rattle.hall_history.specs.Freeing.{frees}
use Rattle.hall_history.specs.Hall.{Hall, after_line}
use Rattle.hall_history.specs.Opening.{after_open}
use Rattle.hall_history.specs.Script.{Step, does}
use Rattle.hall_history.specs.Tapes.{hall_tape}
use Rattle.line_runner.specs.Play.{Does}
use Rattle.room_history.specs.declared.call.RoomCall.{RoomCall}
use Rattle.room_history.specs.declared.reply.RoomReply.{RoomReply}
use Rattle.session_driver.specs.declared.tally.Tally.{Tally}
use Rattle.session_hall.specs.Answered.{Frees, HearsLine, Opens}
use Rattle.session_hall.specs.Held.{HeldHall, StandsForHall}
use Rattle.script_steps.specs.ScriptDoing.{script_doing}
use Rattle.kept_room.specs.Journal.{Calls, Since}
use Rattle.kept_script.specs.Growing.{Grows}
use Rattle.kept_script.specs.KeptPlay.{hall_of}
use Rattle.kept_script.specs.declared.hall.KeptHall.{KeptHall}

-- a step was done by what is held of a hall, and these are the calls that the room's history grew by
abbrev pub StepGrows : Hall GameKind → Step → HeldHall → List ℕ → List ℕ → Calls → Type 0
StepGrows h step new before after more = (d : Does script_doing h step new before after) × Grows h.rooms more (does named any_rules hall_tape d.mark step h).0.rooms

module _ {D : Type 0} (is_told : D → Type 0) (seen : D → List ℕ) (may_leave : D → List ℕ → Type 0) (moment : D → ℕ) (left_since : D → ℕ → List ℕ → Type 0) (faults : D → ℕ) where
  -- from one to the other these calls were made in the room; and whatever hall it stood for, this is so of that hall and of these calls
  pub record Moves (old new : KeptHall D) (Comes : Hall GameKind → Calls → Type 0) : Type 0 where
    pub more : Calls
    pub since : Since is_told seen may_leave moment left_since faults old.room new.room more
    pub comes : (h : Hall GameKind) → StandsForHall hall_tape (hall_of old) h → Comes h more

  -- a session's line was heard
  abbrev pub MovesByLine : KeptHall D → KeptHall D → ℕ → List ℕ → List ℕ → Bool → Tally → Type 0
  MovesByLine old new pass line said again tally =
      Moves old new (λ h more. (k : HearsLine hall_tape h pass line (hall_of new) said again tally) × Grows h.rooms more (after_line named any_rules hall_tape k.mark h pass line).0.rooms)

  -- a Take or a Detach of a session was replied to
  abbrev pub MovesByFreeing : KeptHall D → KeptHall D → ℕ → RoomCall GameKind → Option RoomReply → Type 0
  MovesByFreeing old new pass made told = Moves old new (λ h more. Frees hall_tape h pass made (hall_of new) told × Grows h.rooms more (frees any_rules h pass made).0.rooms)

  -- an open was answered, unless there was no memory
  abbrev pub MovesByOpen : {E : Type 0} → KeptHall D → KeptHall D → List ℕ → ℕ → Result (Option Name) E → Type 0
  MovesByOpen old new game seats result =
      Moves old new (λ h more. IfOk result (λ made. Opens hall_tape h game seats (hall_of new) made × Grows h.rooms more (after_open named any_rules hall_tape h game seats).0.rooms))

  -- a step was done, unless there was no memory
  abbrev pub MovesByStep : {A E : Type 0} → KeptHall D → KeptHall D → Step → List ℕ → List ℕ → Result A E → Type 0
  MovesByStep old new step before after result = Moves old new (λ h more. OnOk result (StepGrows h step (hall_of new) before after more))
