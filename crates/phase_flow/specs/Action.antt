-- How a match begins, and what one action makes of it: what it has then come to, or the rule that the action breaks. An action may draw
-- 256 words, from the place that the match has reached; the place goes on by the words that it draws.
use Rattle.std.specs.Prelude.{ℕ, ◌+◌, ◌-◌, ◌%◌, ◌^◌, Bool, false, not, if◌then◌else◌, is_none, nat_eq, List, length, position, slice_get, Option, Some, Result, Ok, Err}
use Rattle.dice_words.specs.Words.{words}
use Rattle.game_sheet.specs.declared.act.Act.{Act}
use Rattle.game_sheet.specs.declared.act.Act.TheVariants.{Move, Event as Asks}
use Rattle.game_sheet.specs.declared.act.Event.{Event}
use Rattle.game_sheet.specs.declared.act.Event.TheVariants.{EndTurn, EndPhase, EndStage}
use Rattle.game_sheet.specs.declared.refusal.GameRule.{GameRule}
use Rattle.game_sheet.specs.declared.refusal.GameRule.TheVariants.{InvalidMove}
use Rattle.game_sheet.specs.declared.sheet.MoveRow.{MoveRow}
use Rattle.game_sheet.specs.declared.sheet.Sheet.{Sheet}
use Rattle.game_trait.specs.Deed.{Barred, Deed, Done, GaveUp, Invalid, Lacks}
use Rattle.game_trait.specs.Rules.{Rules}
use Rattle.phase_flow.specs.declared.table.Table.{Table}
use Rattle.phase_flow.specs.Flow as flow
use Rattle.phase_flow.specs.Reached.{Reached, reached, table_of}
use Rattle.phase_flow.specs.Step.{At, Ends, Step, rule_of}
use Rattle.stage_map.specs.Active.{is_listed}
use Rattle.std.specs.Option.{option_map_or}

-- the words that an action may draw from a place on
abbrev pub words_from : List ℕ → ℕ → List ℕ
words_from seed place = words seed 0 place 256

-- the place after an action that leaves these of its words
abbrev pub place_after : ℕ → List ℕ → ℕ
place_after place left = (place + (256 - length left)) % 2 ^ 64

-- what a flow comes to that began at a place
abbrev pub come_to : {G : Type 0} → List ℕ → ℕ → Step G → Result (Reached G) GameRule
come_to seed place (At t left tasks after) = Ok (reached seed (place_after place left) t)
come_to seed place (Ends rule) = Err rule

-- a match with a number of seats and a seed
unfoldable pub begin : {G : Type 0} → Rules G → ℕ → List ℕ → Result (Reached G) GameRule
begin rules seats seed = come_to seed 0 (flow.begin rules seats (words_from seed 0))

abbrev pub has_no_limit : Option MoveRow → Bool
has_no_limit found = option_map_or (λ row. row.no_limit) found false

-- a move counts unless its row says that it counts toward no limit
abbrev pub counts : Sheet → ℕ → Bool
counts sheet id = not (has_no_limit (slice_get sheet.moves id))

-- a move is played, and then comes what follows from it
abbrev pub played : {G : Type 0} → Rules G → Table G → ℕ → Bool → Deed G Barred → Step G
played rules t seat is (Done g left events) = flow.moved rules seat is (record t { g = g }) left events
played rules t seat is (GaveUp Invalid) = Ends InvalidMove
played rules t seat is (GaveUp (Lacks lack)) = Ends (rule_of lack)

-- there is no phase to end, no place of that seat in the play order, or no stage of the player's to end
abbrev pub is_invalid : {G : Type 0} → ℕ → Event → Table G → Bool
is_invalid seat EndPhase t = is_none t.ctx.phase
is_invalid seat (EndTurn (Some to)) t = is_none (position (nat_eq to) t.ctx.order)
is_invalid seat EndStage t = not (is_listed t.active seat)
is_invalid seat event t = false

-- a seat asks for an event
abbrev pub asked : {G : Type 0} → Rules G → Table G → ℕ → Event → List ℕ → Step G
asked rules t seat event words = if is_invalid seat event t then Ends InvalidMove else flow.run_event rules seat event t words

-- no action takes one back or makes one again: neither is asked for, and each is answered as an invalid move
abbrev pub acted : {G : Type 0} → Rules G → Table G → ℕ → Act → List ℕ → Step G
acted rules t seat (Move id args) words = played rules t seat (counts rules.sheet id) (rules.play t.g t.ctx seat id args words)
acted rules t seat (Asks event) words = asked rules t seat event words
acted rules t seat act words = Ends InvalidMove

-- an action of a seat on a match
unfoldable pub once : {G : Type 0} → Rules G → Reached G → ℕ → Act → Result (Reached G) GameRule
once rules r seat act = come_to r.seed r.place (acted rules (table_of r) seat act (words_from r.seed r.place))
