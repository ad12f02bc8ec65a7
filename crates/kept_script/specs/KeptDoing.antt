-- How a script is played over one room whose changes are kept, step by step: what stands for a state has stopped nowhere, and keeps every
-- change of the state's own room; and what is left where a line couldn't be kept, or there was no memory for it.
use Rattle.std.specs.Prelude.{◌≡◌, ℕ, List, [], ◌∷◌, ◌++◌, None}
use Rattle.hall_history.specs.Mark.{Mark}
use Rattle.hall_history.specs.Script.{Step}
use Rattle.hall_history.specs.Tapes.{hall_tape}
use Rattle.line_runner.specs.Play.{Doing}
use Rattle.session_hall.specs.Held.{StandsForHall}
use Rattle.kept_room.specs.Journal.{Calls, IsJournal, Since}
use Rattle.kept_script.specs.KeptPlay.{KeptState, hall_of, kept_does}
use Rattle.kept_script.specs.declared.hall.KeptHall.{KeptHall}

module _ {D : Type 0} (is_told : D → Type 0) (seen : D → List ℕ) (may_leave : D → List ℕ → Type 0) (moment : D → ℕ) (left_since : D → ℕ → List ℕ → Type 0) (faults : D → ℕ) where
  -- The hall has one room, whose history is the calls by which the file was opened and those that were made since. The journal is of these.
  pub record IsKept (held : KeptHall D) (s : KeptState D) : Type 0 where
    pub made : Calls
    pub is : s.hall.rooms ≡ (made ++ s.first) ∷ []
    pub stands : StandsForHall hall_tape (hall_of held) s.hall
    pub numbered : held.room.object.room ≡ 0
    pub whole : held.room.stopped ≡ None
    pub journal : IsJournal is_told seen may_leave moment left_since faults 0 s.start s.first made s.told held.room

  -- something stood for the state, and then calls of the next line were made, which printed nothing
  pub record IsLeft (held : KeptHall D) (s : KeptState D) : Type 0 where
    pub before : KeptHall D
    pub was : IsKept before s
    pub more : Calls
    pub since : Since is_told seen may_leave moment left_since faults before.room held.room more

  unfoldable pub kept_doing : Doing Mark Step (KeptState D) (KeptHall D)
  kept_doing = record { does = kept_does; Stands = IsKept; Fails = IsLeft }
