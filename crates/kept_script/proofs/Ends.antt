-- How a run ends, by that of its lines and by why the room has stopped.
use Rattle.std.proofs.Common.{◌≡◌, ◌⊎◌, ◌≤◌, inl, inr, ℕ, Bool, true, false, List, ◌∷◌, [], ◌++◌, Option, Some, None, refl, sym, ap, ◌∙◌, subst}
use Rattle.board_links.specs.Faults.{HasRisen}
use Rattle.hall_history.specs.Mark.{Mark}
use Rattle.hall_history.specs.Script.{Step}
use Rattle.line_runner.specs.Play.{after_steps, steps_of}
use Rattle.line_runner.specs.Running.{Ends, ExitRaises, IsComplete, Leaves}
use Rattle.line_runner.specs.ScriptLines.{script}
use Rattle.line_runner.specs.declared.exit.Exit.{Exit}
use Rattle.line_runner.specs.declared.exit.Exit.TheVariants.{Done, Usage, ReadFault, WriteFault, BadLine, TooLong, TooMany, NoMemory, DoorFault, LinkFault, LinkEnded, LinkLong, BadRecord, LongJournal, StoreFault}
use Rattle.object_journal.specs.declared.performing.Stop.{Stop}
use Rattle.object_journal.specs.declared.performing.Stop.TheVariants as stop
use Rattle.object_journal.specs.declared.replaying.OpenNo.{OpenNo}
use Rattle.object_journal.specs.declared.replaying.OpenNo.TheVariants as open_no
use Rattle.kept_room.specs.Journal.{Calls, FillsFile, Goes, StopRaises}
use Rattle.kept_room.proofs.Journals.{raises_from, some_is_none}
use Rattle.kept_script.specs.Ending.{HasRun, IsFull, IsKeptComplete, KeptRaises, as_run, exit_after, exit_by, exit_of}
use Rattle.kept_script.specs.KeptDoing.{IsLeft, kept_doing}
use Rattle.kept_script.specs.KeptPlay.{KeptState, kept_does, kept_play}
use Rattle.kept_script.specs.declared.hall.KeptHall.{KeptHall}

stopped_run : (stopped : Option Stop) → as_run (exit_by stopped) ≡ NoMemory
stopped_run None = refl
stopped_run (Some stop.NoMemory) = refl
stopped_run (Some (stop.Full place)) = refl
stopped_run (Some (stop.NotKept place)) = refl

-- ---- faults of the source and of the sink

module _ (stopped : Option Stop) (a b c d : ℕ) where
  raised_run : (run : Exit) → ExitRaises run a b c d → as_run (exit_after run stopped) ≡ run
  raised_run Done r = refl
  raised_run Usage r = absurd r
  raised_run ReadFault r = refl
  raised_run WriteFault r = refl
  raised_run (BadLine line) r = refl
  raised_run (TooLong line) r = refl
  raised_run TooMany r = refl
  raised_run NoMemory r = stopped_run stopped
  raised_run DoorFault r = absurd r
  raised_run LinkFault r = absurd r
  raised_run LinkEnded r = absurd r
  raised_run LinkLong r = absurd r
  raised_run (BadRecord place) r = absurd r
  raised_run LongJournal r = absurd r
  raised_run StoreFault r = absurd r

  pub run_raises : (run exit : Exit) → exit ≡ exit_after run stopped → ExitRaises run a b c d → ExitRaises (as_run exit) a b c d
  run_raises run exit is r = subst (λ (x : Exit). ExitRaises x a b c d) (sym (ap as_run is ∙ raised_run run r)) r

  pub run_completes : (run exit : Exit) → exit ≡ exit_after run stopped → ExitRaises run a b c d → IsComplete run → IsComplete (as_run exit)
  run_completes run exit is r done = subst IsComplete (sym (ap as_run is ∙ raised_run run r)) done

module _ (a b c d : ℕ) where
  pub kept_raises : (exit : Exit) → ExitRaises (as_run exit) a b c d → KeptRaises exit a b c d
  kept_raises Done r = r
  kept_raises Usage r = r
  kept_raises ReadFault r = r
  kept_raises WriteFault r = r
  kept_raises (BadLine line) r = r
  kept_raises (TooLong line) r = r
  kept_raises TooMany r = r
  kept_raises NoMemory r = r
  kept_raises DoorFault r = r
  kept_raises LinkFault r = r
  kept_raises LinkEnded r = r
  kept_raises LinkLong r = r
  kept_raises (BadRecord place) r = absurd r
  kept_raises LongJournal r = r
  kept_raises StoreFault r = r

pub kept_completes : (exit : Exit) → IsComplete (as_run exit) → IsKeptComplete exit
kept_completes Done r = r
kept_completes Usage r = r
kept_completes ReadFault r = r
kept_completes WriteFault r = r
kept_completes (BadLine line) r = r
kept_completes (TooLong line) r = r
kept_completes TooMany r = r
kept_completes NoMemory r = r
kept_completes DoorFault r = r
kept_completes LinkFault r = r
kept_completes LinkEnded r = r
kept_completes LinkLong r = r
kept_completes (BadRecord place) r = tt
kept_completes LongJournal r = r
kept_completes StoreFault r = r

-- where the file wasn't opened
pub unopened_raises : (why : OpenNo) (exit : Exit) → exit ≡ exit_of why → (source sink : ℕ) → KeptRaises exit source source sink sink
unopened_raises why exit is source sink = subst (λ (x : Exit). KeptRaises x source source sink sink) (sym is) (by why)
  where
    by : (n : OpenNo) → KeptRaises (exit_of n) source source sink sink
    by open_no.DiskFault = (refl, refl)
    by open_no.Long = (refl, refl)
    by (open_no.Damaged place) = (refl, refl)
    by open_no.NoMemory = (refl, refl)

pub unopened_completes : (why : OpenNo) (exit : Exit) → exit ≡ exit_of why → IsKeptComplete exit
unopened_completes why exit is = subst IsKeptComplete (sym is) (by why)
  where
    by : (n : OpenNo) → IsKeptComplete (exit_of n)
    by open_no.DiskFault = tt
    by open_no.Long = tt
    by (open_no.Damaged place) = tt
    by open_no.NoMemory = tt

-- ---- a fault of the disk, and a full file

-- an end is that of the lines' run, or it comes by why the room has stopped
either_stop : (stopped : Option Stop) (run exit : Exit) → exit_after run stopped ≡ exit → (run ≡ exit) ⊎ (exit_by stopped ≡ exit)
either_stop stopped Done exit is = inl is
either_stop stopped Usage exit is = inl is
either_stop stopped ReadFault exit is = inl is
either_stop stopped WriteFault exit is = inl is
either_stop stopped (BadLine line) exit is = inl is
either_stop stopped (TooLong line) exit is = inl is
either_stop stopped TooMany exit is = inl is
either_stop stopped NoMemory exit is = inr is
either_stop stopped DoorFault exit is = inl is
either_stop stopped LinkFault exit is = inl is
either_stop stopped LinkEnded exit is = inl is
either_stop stopped LinkLong exit is = inl is
either_stop stopped (BadRecord place) exit is = inl is
either_stop stopped LongJournal exit is = inl is
either_stop stopped StoreFault exit is = inl is

abbrev is_store : Exit → Bool
is_store StoreFault = true
is_store exit = false

abbrev is_long : Exit → Bool
is_long LongJournal = true
is_long exit = false

no_true : false ≡ true → ⊥
no_true e = cc

store_by : (why : Option Stop) → exit_by why ≡ StoreFault → (place : ℕ) × (why ≡ Some (stop.NotKept place))
store_by None e = absurd (no_true (ap is_store e))
store_by (Some stop.NoMemory) e = absurd (no_true (ap is_store e))
store_by (Some (stop.Full place)) e = absurd (no_true (ap is_store e))
store_by (Some (stop.NotKept place)) e = (place, refl)

full_by : (why : Option Stop) → exit_by why ≡ LongJournal → (place : ℕ) × (why ≡ Some (stop.Full place))
full_by None e = absurd (no_true (ap is_long e))
full_by (Some stop.NoMemory) e = absurd (no_true (ap is_long e))
full_by (Some (stop.Full place)) e = (place, refl)
full_by (Some (stop.NotKept place)) e = absurd (no_true (ap is_long e))

module _ {D : Type 0} (s : KeptState D) (bytes left before : List ℕ) (after : Option (List ℕ)) (stopped : Option Stop) where
  run_is : (run : Exit) → Ends kept_play s bytes left before after run → as_run (exit_after run stopped) ≡ run
  run_is Done e = refl
  run_is Usage e = refl
  run_is ReadFault e = refl
  run_is WriteFault e = refl
  run_is (BadLine line) e = refl
  run_is (TooLong line) e = refl
  run_is TooMany e = refl
  run_is NoMemory e = stopped_run stopped
  run_is DoorFault e = refl
  run_is LinkFault e = refl
  run_is LinkEnded e = refl
  run_is LinkLong e = refl
  run_is (BadRecord place) e = refl
  run_is LongJournal e = absurd e
  run_is StoreFault e = absurd e

  store_stop : (run : Exit) → Ends kept_play s bytes left before after run → exit_after run stopped ≡ StoreFault → (place : ℕ) × (stopped ≡ Some (stop.NotKept place))
  store_stop run e x = by (either_stop stopped run StoreFault x)
    where
      by : (run ≡ StoreFault) ⊎ (exit_by stopped ≡ StoreFault) → (place : ℕ) × (stopped ≡ Some (stop.NotKept place))
      by (inl is) = absurd (subst (λ (r : Exit). Ends kept_play s bytes left before after r) is e)
      by (inr is) = store_by stopped is

  full_stop : (run : Exit) → Ends kept_play s bytes left before after run → exit_after run stopped ≡ LongJournal → (place : ℕ) × (stopped ≡ Some (stop.Full place))
  full_stop run e x = by (either_stop stopped run LongJournal x)
    where
      by : (run ≡ LongJournal) ⊎ (exit_by stopped ≡ LongJournal) → (place : ℕ) × (stopped ≡ Some (stop.Full place))
      by (inl is) = absurd (subst (λ (r : Exit). Ends kept_play s bytes left before after r) is e)
      by (inr is) = full_by stopped is

module _ {D : Type 0} (is_told : D → Type 0) (seen : D → List ℕ) (may_leave : D → List ℕ → Type 0) (moment : D → ℕ) (left_since : D → ℕ → List ℕ → Type 0) (faults : D → ℕ) where
  -- no line changes the disk from before
  same_start : (marks : List Mark) (steps : List Step) (s : KeptState D) → (after_steps (kept_doing is_told seen may_leave moment left_since faults) marks steps s).start ≡ s.start
  unfolding kept_doing
  same_start [] steps s = refl
  same_start (mark ∷ marks) [] s = refl
  same_start (mark ∷ marks) (step ∷ steps) s = same_start marks steps (kept_does mark step s).0

  -- and none what is known of it
  same_told : (marks : List Mark) (steps : List Step) (s : KeptState D) → (after_steps (kept_doing is_told seen may_leave moment left_since faults) marks steps s).told ≡ s.told
  unfolding kept_doing
  same_told [] steps s = refl
  same_told (mark ∷ marks) [] s = refl
  same_told (mark ∷ marks) (step ∷ steps) s = same_told marks steps (kept_does mark step s).0

  module _ (s t : KeptState D) (same : t.start ≡ s.start) (hall : KeptHall D) (place : ℕ) (stopped : hall.room.stopped ≡ Some (stop.NotKept place)) where
    left_raised : IsLeft is_told seen may_leave moment left_since faults hall t → HasRisen (faults s.start) (faults hall.room.file.disk)
    left_raised f =
        let old : ℕ = faults f.before.room.file.disk in
        let new : ℕ = faults hall.room.file.disk in
        let none : Goes is_told seen may_leave moment left_since faults None f.before.room hall.room =
        subst (λ (o : Option Stop). Goes is_told seen may_leave moment left_since faults o f.before.room hall.room) f.was.whole f.since.goes in
        let rose : StopRaises (Some (stop.NotKept place)) old new = subst (λ (o : Option Stop). StopRaises o old new) stopped none in
        raises_from (Some (stop.NotKept place)) (faults s.start) old new (subst (λ (d : D). faults d ≤ old) same f.was.journal.never_falls) rose

    raised_by : (kept_doing is_told seen may_leave moment left_since faults).Stands hall t ⊎ ((kept_doing is_told seen may_leave moment left_since faults).Fails hall t)
        → HasRisen (faults s.start) (faults hall.room.file.disk)
    unfolding kept_doing
    raised_by (inl k) = absurd (some_is_none (stop.NotKept place) (sym stopped ∙ k.whole))
    raised_by (inr f) = left_raised f

  module _ (t : KeptState D) (known : t.told ≡ true) (hall : KeptHall D) (place : ℕ) (stopped : hall.room.stopped ≡ Some (stop.Full place)) where
    left_full : IsLeft is_told seen may_leave moment left_since faults hall t → IsFull hall t
    left_full f =
        let history : Calls = f.was.made ++ t.first in
        record {
          history = history;
          is = f.was.is;
          more = f.more;
          stands = f.since.stands history f.was.journal.stands;
          fills = subst (λ (r : ℕ). FillsFile r history f.more) f.was.numbered (f.since.full history f.was.whole (f.was.journal.keeps known) place stopped);
        }

    filled_by : (kept_doing is_told seen may_leave moment left_since faults).Stands hall t ⊎ ((kept_doing is_told seen may_leave moment left_since faults).Fails hall t) → IsFull hall t
    unfolding kept_doing
    filled_by (inl k) = absurd (some_is_none (stop.Full place) (sym stopped ∙ k.whole))
    filled_by (inr f) = left_full f

module _ {D : Type 0} (is_told : D → Type 0) (seen : D → List ℕ) (may_leave : D → List ℕ → Type 0) (moment : D → ℕ) (left_since : D → ℕ → List ℕ → Type 0) (faults : D → ℕ)
    (s : KeptState D) (bytes left before : List ℕ) (after : Option (List ℕ)) (run : Exit) (hall : KeptHall D) where
  pub has_run : (stopped : Option Stop) (exit : Exit) (disk : D) → exit ≡ exit_after run stopped → disk ≡ hall.room.file.disk → stopped ≡ hall.room.stopped
      → Ends kept_play s bytes left before after run → Leaves kept_play (kept_doing is_told seen may_leave moment left_since faults) s (script bytes) hall before after run
      → HasRun is_told seen may_leave moment left_since faults s bytes left before after exit disk
  has_run stopped exit disk is handed why ends leaves = record {
    ends = subst (λ (x : Exit). Ends kept_play s bytes left before after x) (sym same) ends;
    hall = hall;
    handed = handed;
    leaves = left_so;
    stops = is ∙ ap (λ (x : Exit). exit_after x stopped) (sym same) ∙ ap (λ (o : Option Stop). exit_after (as_run exit) o) why;
    store = λ e. store (store_stop s bytes left before after stopped run ends (sym is ∙ e));
    full = λ known e. full known (full_stop s bytes left before after stopped run ends (sym is ∙ e));
  }
    where
      same : as_run exit ≡ run
      same = ap as_run is ∙ run_is s bytes left before after stopped run ends

      left_so : Leaves kept_play (kept_doing is_told seen may_leave moment left_since faults) s (script bytes) hall before after (as_run exit)
      left_so = subst (λ (x : Exit). Leaves kept_play (kept_doing is_told seen may_leave moment left_since faults) s (script bytes) hall before after x) (sym same) leaves

      steps : List Step
      steps = steps_of (kept_play {D = D}).form left_so.done

      then : KeptState D
      then = after_steps (kept_doing is_told seen may_leave moment left_since faults) left_so.marks steps s

      either : {A B C : Type 0} → A ⊎ (B × C) → A ⊎ C
      either (inl k) = inl k
      either (inr f) = inr f.1

      store : ((place : ℕ) × (stopped ≡ Some (stop.NotKept place))) → HasRisen (faults s.start) (faults disk)
      store (place, e) =
          subst (λ (d : D). HasRisen (faults s.start) (faults d)) (sym handed)
          (raised_by is_told seen may_leave moment left_since faults s then (same_start is_told seen may_leave moment left_since faults left_so.marks steps s) hall place (sym why ∙ e)
          (either left_so.stands))

      full : s.told ≡ true → ((place : ℕ) × (stopped ≡ Some (stop.Full place))) → IsFull hall then
      full known (place, e) =
          filled_by is_told seen may_leave moment left_since faults then (same_told is_told seen may_leave moment left_since faults left_so.marks steps s ∙ known) hall place (sym why ∙ e)
          (either left_so.stands)
