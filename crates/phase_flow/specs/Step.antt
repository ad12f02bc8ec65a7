-- What a part of the flow comes to: a table, the words left, the tasks to run after it, and whether it was a turn's end that put a
-- phase's end in front of them; or the rule that it breaks.
use Rattle.std.specs.Prelude.{ℕ, Bool, false, List, [], ◌++◌, map, Option, None}
use Rattle.game_sheet.specs.declared.act.Event.{Event}
use Rattle.game_sheet.specs.declared.refusal.GameRule.{GameRule}
use Rattle.game_sheet.specs.declared.refusal.GameRule.TheVariants.{TooManyEvents, TooManyWords}
use Rattle.game_trait.specs.Deed.{Crowded, Deed, Done, GaveUp, Lack, Spent}
use Rattle.phase_flow.specs.declared.table.Table.{Table}
use Rattle.phase_flow.specs.declared.task.Task.{Task}

pub data Step (G : Type 0) : Type 0 where
  At : Table G → List ℕ → List Task → Bool → Step G
  Ends : GameRule → Step G

-- from one part of a task to the next
abbrev pub and_then : {G : Type 0} → Step G → (Table G → List ℕ → List Task → Step G) → Step G
and_then (At t words tasks after) go = go t words tasks
and_then (Ends rule) go = Ends rule

-- from a task to what follows it
abbrev pub carry_on : {G : Type 0} → Step G → (Table G → List ℕ → List Task → Bool → Step G) → Step G
carry_on (At t words tasks after) go = go t words tasks after
carry_on (Ends rule) go = Ends rule

-- an event of a seat, or of whoever is current when it happens
abbrev pub spoken : Option ℕ → Event → Task
spoken who event = record { event = event; speaker = who }

abbrev pub by_itself : Event → Task
by_itself event = spoken None event

abbrev pub spoken_by : Option ℕ → List Event → List Task
spoken_by who events = map (spoken who) events

-- what game code gives up for is refused by this rule
abbrev pub rule_of : Lack → GameRule
rule_of Spent = TooManyWords
rule_of Crowded = TooManyEvents

-- a hook has run: its events go to the end of the tasks
abbrev pub hooked : {G : Type 0} → Option ℕ → Table G → List Task → Deed G Lack → Step G
hooked who t tasks (Done g words events) = At (record t { g = g }) words (tasks ++ spoken_by who events) false
hooked who t tasks (GaveUp lack) = Ends (rule_of lack)

-- the hook of a match's end has run: no task is left, and its events are dropped
abbrev pub ended_with : {G : Type 0} → Table G → Deed G Lack → Step G
ended_with t (Done g words events) = At (record t { g = g }) words [] false
ended_with t (GaveUp lack) = Ends (rule_of lack)
