-- The task that comes by itself: the match ends where the game says so; else the phase does; else the turn ends, once it has had its least
-- count of moves, where the game says so or where it has had its greatest and no map stands.
use Rattle.std.specs.Prelude.{ℕ, Bool, false, ◌&&◌, ◌||◌, if◌then◌else◌, nat_lt, nat_le, is_none, List, ◌∷◌, Option, Some, None}
use Rattle.game_sheet.specs.declared.act.Event.TheVariants.{EndTurn, EndPhase, EndGame}
use Rattle.game_sheet.specs.declared.ctx.Ctx.{Ctx}
use Rattle.game_sheet.specs.declared.sheet.TurnRow.{TurnRow}
use Rattle.game_trait.specs.Rules.{Rules}
use Rattle.phase_flow.specs.declared.table.Table.{Table}
use Rattle.phase_flow.specs.declared.task.Task.{Task}
use Rattle.phase_flow.specs.Rows.{turn_row}
use Rattle.phase_flow.specs.Step.{by_itself}
use Rattle.std.specs.Option.{option_map_or}

abbrev pub is_full : Option ℕ → Ctx → Bool
is_full limit ctx = option_map_or (λ most. nat_le most ctx.moves && is_none ctx.active) limit false

abbrev pub turn_ended : TurnRow → Ctx → Bool → Option Task
turn_ended row ctx says = if nat_lt ctx.moves row.min_moves then None else (if says || is_full row.max_moves ctx then Some (by_itself (EndTurn None)) else None)

abbrev pub phase_ended : Option ℕ → Bool → Option Task → Option Task
phase_ended phase says otherwise = option_map_or (λ phase. if says then Some (by_itself EndPhase) else otherwise) phase otherwise

abbrev pub automatic : {G : Type 0} → Rules G → Table G → Option Task
automatic rules t = option_map_or (λ outcome. Some (by_itself (EndGame outcome))) (rules.end_if t.g t.ctx)
    (phase_ended t.ctx.phase (rules.phase_end_if t.g t.ctx)
    (turn_ended (turn_row rules.sheet t.ctx) t.ctx (rules.turn_end_if t.g t.ctx)))

-- it is put in front of the tasks, but not after a turn's end that put a phase's end there
abbrev pub with_automatic : {G : Type 0} → Rules G → Bool → Table G → List Task → List Task
with_automatic rules after_end t tasks = if after_end then tasks else option_map_or (λ task. task ∷ tasks) (automatic rules t) tasks
