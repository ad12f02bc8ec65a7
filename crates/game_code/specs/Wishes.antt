-- The events that code asks for. A seat that is none of the match is asked for in vain.
use Rattle.std.specs.Prelude.{ℕ, nat_lt, ◌&&◌, if◌then◌else◌, ℤ, pos, negsuc, List, Option, Some, None, option_map}
use Rattle.game_sheet.specs.declared.act.Event.{Event}
use Rattle.game_sheet.specs.declared.act.Event.TheVariants.{EndTurn, EndPhase, SetPhase, EndStage, SetStage, SetActive, EndGame}
use Rattle.game_sheet.specs.declared.act.Outcome.{Outcome}
use Rattle.game_sheet.specs.declared.act.Outcome.TheVariants.{Winner, Draw, Ended}
use Rattle.game_sheet.specs.declared.args.Arg.{Arg}
use Rattle.game_sheet.specs.declared.args.Arg.TheVariants.{Whole, Text}
use Rattle.game_slots.specs.Slots.{SlotLists}
use Rattle.game_slots.specs.declared.table.Table.{Table}
use Rattle.game_code.specs.Meaning.{value_of}
use Rattle.game_code.specs.Setting.{Setting}
use Rattle.game_code.specs.declared.statement.Wish.{Wish}
use Rattle.game_code.specs.declared.statement.Wish.TheVariants.{EndTurn as WishEndTurn, EndTurnTo as WishEndTurnTo, EndPhase as WishEndPhase, SetPhase as WishSetPhase, EndStage as WishEndStage, SetStage as WishSetStage, SetActive as WishSetActive, Win as WishWin, Draw as WishDraw, End as WishEnd}

-- the seat that a value is, of a match of so many seats, which are at most sixteen
abbrev pub seat_in : ℕ → Option Arg → Option ℕ
seat_in seats None = None
seat_in seats (Some (Whole (pos n))) = if nat_lt n seats && nat_lt n 16 then Some n else None
seat_in seats (Some (Whole (negsuc n))) = None
seat_in seats (Some (Text text)) = None

-- the end of a turn, with a seat to be next: null leaves it to the order
abbrev pub turn_to : ℕ → Option Arg → Option Event
turn_to seats None = Some (EndTurn None)
turn_to seats (Some argument) = option_map (λ seat. EndTurn (Some seat)) (seat_in seats (Some argument))

abbrev pub won_by : ℕ → Option Arg → Option Event
won_by seats value = option_map (λ seat. EndGame (Winner seat)) (seat_in seats value)

-- the event that is asked for, if there is one
abbrev pub wished : Wish → Setting → Table → SlotLists → List (Option Arg) → Option Event
wished WishEndTurn s table work locals = Some (EndTurn None)
wished (WishEndTurnTo seat) s table work locals = turn_to s.context.seats (value_of seat s table work locals)
wished WishEndPhase s table work locals = Some EndPhase
wished (WishSetPhase to) s table work locals = Some (SetPhase to)
wished WishEndStage s table work locals = Some EndStage
wished (WishSetStage to) s table work locals = Some (SetStage to)
wished (WishSetActive spec) s table work locals = Some (SetActive spec)
wished (WishWin seat) s table work locals = won_by s.context.seats (value_of seat s table work locals)
wished WishDraw s table work locals = Some (EndGame Draw)
wished WishEnd s table work locals = Some (EndGame Ended)
