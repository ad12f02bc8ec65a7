-- How the code of an action is tied to what the action comes to: want of memory is free, and all else is exact, with the table and the words left.
use Rattle.std.specs.Prelude.{◌≡◌, ℕ, false, List, [], Result, Ok, Err}
use Rattle.game_sheet.specs.declared.refusal.GameNo.{GameNo}
use Rattle.game_sheet.specs.declared.refusal.GameNo.TheVariants.{Broken, NoMemory}
use Rattle.game_sheet.specs.declared.refusal.GameRule.TheVariants as rule
use Rattle.game_trait.specs.declared.halt.Halt.{Halt}
use Rattle.game_trait.specs.declared.halt.Halt.TheVariants.{Invalid, Spent, Crowded, NoMemory as Starved}
use Rattle.phase_flow.specs.declared.flow_no.FlowNo.{FlowNo}
use Rattle.phase_flow.specs.declared.flow_no.FlowNo.TheVariants.{TooManyEvents, TooManyWords, TooEarly, NoMemory as NoRoom}
use Rattle.phase_flow.specs.declared.table.Table.{Table}
use Rattle.phase_flow.specs.Step.{At, Ends, Step}

abbrev pub Acts : {G : Type 0} → Result (Table G) GameNo → List ℕ → Step G → Type 0
Acts (Ok t) left meaning = meaning ≡ At t left [] false
Acts (Err (Broken rule)) left meaning = meaning ≡ Ends rule
Acts (Err NoMemory) left meaning = Unit {0}

-- what a refusal of the flow is answered as
abbrev pub flow_answer : FlowNo → GameNo
flow_answer TooManyEvents = Broken rule.TooManyEvents
flow_answer TooManyWords = Broken rule.TooManyWords
flow_answer TooEarly = Broken rule.TooEarly
flow_answer NoRoom = NoMemory

-- what a move that gives no state is answered as
abbrev pub move_answer : Halt → GameNo
move_answer Invalid = Broken rule.InvalidMove
move_answer Spent = Broken rule.TooManyWords
move_answer Crowded = Broken rule.TooManyEvents
move_answer Starved = NoMemory
