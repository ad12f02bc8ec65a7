-- How the code of the flow is tied to its meaning: want of memory is free, and all else is exact, with the table, the words left and the tasks.
use Rattle.std.specs.Prelude.{◌≡◌, ℕ, Bool, false, List, [], ◌∷◌, Option, Some, None, Result, Ok, Err}
use Rattle.game_sheet.specs.declared.act.Event.{Event}
use Rattle.game_sheet.specs.declared.act.Event.TheVariants.{EndStage, SetActive, SetStage}
use Rattle.game_sheet.specs.declared.refusal.GameRule.TheVariants as rule
use Rattle.game_sheet.specs.declared.sheet.Sheet.{Sheet}
use Rattle.game_trait.specs.declared.halt.HookHalt.{HookHalt}
use Rattle.game_trait.specs.declared.halt.HookHalt.TheVariants.{Spent, Crowded, NoMemory as Starved}
use Rattle.phase_flow.specs.declared.flow_no.FlowNo.{FlowNo}
use Rattle.phase_flow.specs.declared.flow_no.FlowNo.TheVariants.{TooManyEvents, TooManyWords, TooEarly, NoMemory}
use Rattle.phase_flow.specs.declared.table.Table.{Table}
use Rattle.phase_flow.specs.declared.task.Task.{Task}
use Rattle.phase_flow.specs.Settle.{next_by, speaking}
use Rattle.phase_flow.specs.Step.{At, Ends, Step}
use Rattle.phase_flow.specs.Turns.{with_active}
use Rattle.stage_map.specs.Set.{set}
use Rattle.stage_map.specs.Stages.{end_stage, set_stage}

abbrev pub Fails : {G : Type 0} → FlowNo → Step G → Type 0
Fails TooManyEvents meaning = meaning ≡ Ends rule.TooManyEvents
Fails TooManyWords meaning = meaning ≡ Ends rule.TooManyWords
Fails TooEarly meaning = meaning ≡ Ends rule.TooEarly
Fails NoMemory meaning = Unit {0}

-- a part of the flow that changes a table, and answers whether it was a turn's end that put a phase's end in front
abbrev pub Runs : {G : Type 0} → Result Bool FlowNo → Table G → List ℕ → List Task → Step G → Type 0
Runs (Ok after) t words tasks meaning = meaning ≡ At t words tasks after
Runs (Err why) t words tasks meaning = Fails why meaning

-- the same of a part that never is one
abbrev pub Comes : {A G : Type 0} → Result A FlowNo → Table G → List ℕ → List Task → Step G → Type 0
Comes (Ok done) t words tasks meaning = meaning ≡ At t words tasks false
Comes (Err why) t words tasks meaning = Fails why meaning

-- a flow that ends settled, with no task left
abbrev pub Settles : {G : Type 0} → Result (Table G) FlowNo → List ℕ → Step G → Type 0
Settles (Ok t) words meaning = meaning ≡ At t words [] false
Settles (Err why) words meaning = Fails why meaning

-- what a hook's halt is answered as
abbrev pub no_of : HookHalt → FlowNo
no_of Spent = TooManyWords
no_of Crowded = TooManyEvents
no_of Starved = NoMemory

-- the answer of a part that never puts a phase's end in front
abbrev pub quieted : {A : Type 0} → Result A FlowNo → Result Bool FlowNo
quieted (Ok done) = Ok false
quieted (Err why) = Err why

-- the same of a part that wants nothing but memory
abbrev pub mapped : {A E : Type 0} → Result A E → Result Bool FlowNo
mapped (Ok done) = Ok false
mapped (Err why) = Err NoMemory

-- what an event does that changes the map alone
abbrev pub map_changed : {G : Type 0} → Sheet → Event → Option ℕ → Table G → Table G
map_changed sheet (SetActive spec) speaker t = with_active (set sheet spec t.ctx.current t.ctx.order t.active) t
map_changed sheet (SetStage to) speaker t = with_active (set_stage (speaking speaker t.ctx) to t.active) t
map_changed sheet EndStage speaker t = with_active (end_stage sheet (speaking speaker t.ctx) t.ctx.current t.ctx.order t.active) t
map_changed sheet event speaker t = t

-- nothing is left to do
abbrev pub IsDone : {G : Type 0} → Table G → List Task → Type 0
IsDone {G = G} t tasks = (words : List ℕ) (go : Task → List Task → Step G) → next_by t.ctx.over t words tasks go ≡ At t words [] false

-- the task that runs next is the first one, and the others are left
abbrev pub Heads : {G : Type 0} → Option Task → Table G → List Task → List Task → Type 0
Heads None t rest tasks = IsDone t tasks
Heads (Some task) t rest tasks = (t.ctx.over ≡ None) × (tasks ≡ task ∷ rest)
