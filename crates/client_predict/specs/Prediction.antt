-- What a client guesses of an action before it is judged: what the move makes of the state that is shown, with no word to draw, one
-- number further. The context and the log stay, and the events that the move queues are dropped.
use Rattle.std.specs.Prelude.{ℕ, ◌+◌, ◌==◌, [], Bool, false, not, ◌&&◌, is_none, slice_get, if◌then◌else◌, Option, Some, None, option_map, option_and_then}
use Rattle.std.specs.List.{list_any}
use Rattle.game_sheet.specs.declared.act.Act.{Act}
use Rattle.game_sheet.specs.declared.act.Act.TheVariants.{Move}
use Rattle.game_sheet.specs.declared.sheet.MoveRow.{MoveRow}
use Rattle.game_sheet.specs.declared.sheet.Sheet.{Sheet}
use Rattle.game_trait.specs.Deed.{Barred, Deed, Done, GaveUp}
use Rattle.game_trait.specs.Rules.{Rules}
use Rattle.player_sight.specs.declared.shown.Snapshot.{Snapshot}
use Rattle.stage_map.specs.Moves.{may, moves}
use Rattle.wire_json.specs.Resolve.{act_of}
use Rattle.wire_json.specs.declared.asked.Asked.{Asked}
use Rattle.std.specs.Option.{option_map_or}

-- the greatest state number
abbrev pub last_number : ℕ
last_number = 4294967295

abbrev pub runs_on_client : Option MoveRow → Bool
runs_on_client found = option_map_or (λ row. row.client) found false

-- a seat's move may be guessed where its row lets it run on the client, the match goes on, the seat may act and has the move, and
-- there is a number after the present one
abbrev pub may_guess : {G : Type 0} → Sheet → Snapshot G → ℕ → ℕ → Bool
may_guess sheet s seat id = not (s.number == last_number)
    && (runs_on_client (slice_get sheet.moves id)
    && (is_none s.ctx.over && (may s.ctx seat && list_any (λ m. m == id) (moves sheet s.ctx seat))))

-- the state that a move makes, unless the game gives up
abbrev pub made : {G : Type 0} → Deed G Barred → Option G
made (Done g words events) = Some g
made (GaveUp why) = None

abbrev pub guessed_act : {G : Type 0} → Rules G → Snapshot G → ℕ → Option Act → Option G
guessed_act rules s seat (Some (Move id args)) = if may_guess rules.sheet s seat id then made (rules.play s.g s.ctx seat id args []) else None
guessed_act rules s seat other = None

-- the state that a viewer's action is guessed to lead to, if it is guessed; a spectator's is not
abbrev pub guessed : {G : Type 0} → Rules G → Snapshot G → Option ℕ → Asked → Option G
guessed rules s viewer asked = option_and_then (λ seat. guessed_act rules s seat (act_of rules.sheet asked)) viewer

-- the snapshot that the action is guessed to lead to, one number further
abbrev pub predict : {G : Type 0} → Rules G → Snapshot G → Option ℕ → Asked → Option (Snapshot G)
predict rules s seat asked = option_map (λ g. record { number = s.number + 1; ctx = s.ctx; g = g; log = s.log }) (guessed rules s seat asked)
