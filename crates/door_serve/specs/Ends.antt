-- How the serving of rooms ends, and what it says of the door, of the sink and of the rooms that are handed back.
use Rattle.std.specs.Prelude.{◌≡◌, ◌⊎◌, ℕ, List, [], ◌++◌, length, take, Bool, Option, Some}
use Rattle.board_links.specs.Faults.{HasRisen}
use Rattle.link_rounds.specs.Gate.{Ended}
use Rattle.board_links.specs.declared.sink.Put as sink
use Rattle.board_links.specs.declared.sink.Put.TheVariants as put
use Rattle.link_rounds.specs.declared.gate.DoorEnd.{DoorEnd}
use Rattle.link_rounds.specs.declared.gate.DoorEnd.TheVariants as door
use Rattle.door_serve.specs.Report.{report}
use Rattle.door_serve.specs.Rooms.{Calls, Hosted, Numbered, Stand, rows_of}
use Rattle.door_serve.specs.declared.serving.ServeEnd.{ServeEnd}
use Rattle.door_serve.specs.declared.serving.ServeEnd.TheVariants as end

-- the door is shut or gave its last session, and then so many links were given as it held or as there were sessions, whichever are fewer;
-- it failed; or the sink failed. The sink's count of faults rises at its fault alone, and without a sink's fault the door's at its own alone.
abbrev pub EndsBy : ServeEnd → ℕ → ℕ → Option ℕ → Bool → ℕ → ℕ → ℕ → ℕ → Type 0
EndsBy end.Done sessions before held shut faults count sink_old sink_new = Ended sessions before held shut faults count (Some door.Done) × (sink_new ≡ sink_old)
EndsBy end.DoorFault sessions before held shut faults count sink_old sink_new = HasRisen before faults × (sink_new ≡ sink_old)
EndsBy end.WriteFault sessions before held shut faults count sink_old sink_new = HasRisen sink_old sink_new
EndsBy end.NoMemory sessions before held shut faults count sink_old sink_new = (faults ≡ before) × (sink_new ≡ sink_old)

-- by how the door's serving ended, and what came of the report
abbrev pub end_of : DoorEnd → sink.Put → ServeEnd
end_of how put.Failed = end.WriteFault
end_of door.Done put.Done = end.Done
end_of door.DoorFault put.Done = end.DoorFault
end_of door.NoMemory put.Done = end.NoMemory

-- a text was printed, or, where the sink failed, some first part of it
abbrev pub Printed : ServeEnd → List ℕ → List ℕ → Option (List ℕ) → Type 0
Printed end.WriteFault text before after = (n : ℕ) × (after ≡ Some (before ++ take n text))
Printed other text before after = after ≡ Some (before ++ text)

-- so many rooms were closed: each stands for one history
pub record AreClosed {B : Type 0} (known : Hosted B) (count : ℕ) (rooms : List B) (histories : List Calls) : Type 0 where
  pub many : length rooms ≡ count
  pub numbered : Numbered known.number 0 rooms
  pub stand : Stand known.stands_for rooms histories

-- the rooms come back, each standing for one history, and what was served fits these histories; or there was no memory to set them up
abbrev pub AreBack : {B : Type 0} → Hosted B → ℕ → ServeEnd → List B → (List Calls → Type 0) → Type 0
AreBack known many how rooms served = ((histories : List Calls) × AreClosed known many rooms histories × served histories) ⊎ ((how ≡ end.NoMemory) × (rooms ≡ []))

-- the rooms stood for these histories when they were handed in; they come back, each standing for one history, and what was served fits both; or there
-- was no memory to set them up
abbrev pub AreGiven : {B : Type 0} → Hosted B → ℕ → ServeEnd → List B → List B → (List Calls → List Calls → Type 0) → Type 0
AreGiven known many how before rooms served =
    ((pasts : List Calls) × (histories : List Calls) × Stand known.stands_for before pasts × AreClosed known many rooms histories × served pasts histories)
    ⊎ ((how ≡ end.NoMemory) × (rooms ≡ []))

-- what is handed back, and what was printed: the report of so many rooms; or there was no memory to set them up, and nothing was printed
abbrev pub Reports : {B : Type 0} → Hosted B → ℕ → ℕ → List B → ServeEnd → List ℕ → Option (List ℕ) → Type 0
Reports known many count rooms how before after =
    ((histories : List Calls) × AreClosed known many rooms histories × Printed how (report count (rows_of known rooms histories)) before after)
    ⊎ ((how ≡ end.NoMemory) × (rooms ≡ []) × (count ≡ 0) × (after ≡ Some before))
