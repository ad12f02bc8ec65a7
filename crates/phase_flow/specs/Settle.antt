-- How a table is settled. Tasks run first in, first out, and what each one does is a line for each kind of event. Before each of them the task
-- that comes by itself may be put in front. Nothing runs once the match is over, and no action begins a sixty-fifth task.
use Rattle.std.specs.Prelude.{ℕ, zero, suc, Bool, true, false, if◌then◌else◌, nat_eq, nat_lt, List, [], ◌∷◌, length, position, Option, Some, None, unwrap_or}
use Rattle.game_sheet.specs.declared.act.Event.{Event}
use Rattle.game_sheet.specs.declared.act.Event.TheVariants.{EndTurn, EndPhase, SetPhase, EndStage, SetStage, SetActive, EndGame}
use Rattle.game_sheet.specs.declared.act.Outcome.{Outcome}
use Rattle.game_sheet.specs.declared.ctx.Ctx.{Ctx}
use Rattle.game_sheet.specs.declared.refusal.GameRule.TheVariants.{TooManyEvents}
use Rattle.game_trait.specs.Rules.{Rules}
use Rattle.stage_map.specs.Set.{set}
use Rattle.stage_map.specs.Stages.{end_stage, set_stage}
use Rattle.turn_order.specs.Position.{next}
use Rattle.phase_flow.specs.declared.table.Table.{Table}
use Rattle.phase_flow.specs.declared.task.Task.{Task}
use Rattle.phase_flow.specs.Automatic.{with_automatic}
use Rattle.phase_flow.specs.Rows.{phase_after, turn_row}
use Rattle.phase_flow.specs.Step.{At, Ends, Step, by_itself, carry_on, ended_with}
use Rattle.phase_flow.specs.Turns.{enter, pass_on, with_active}
use Rattle.std.specs.Option.{option_map_or}

-- the seat that a task speaks of
abbrev pub speaking : Option ℕ → Ctx → ℕ
speaking seat ctx = unwrap_or seat ctx.current

abbrev pub over : {G : Type 0} → Outcome → Table G → Table G
over outcome t = record t { ctx = record t.ctx { over = Some outcome } }

module _ {G : Type 0} (rules : Rules G) where
  -- the turn passes to a seat of the play order, and to no other
  abbrev pub pass_to : Option ℕ → Table G → List ℕ → List Task → Step G
  pass_to place t words tasks = option_map_or (λ place. pass_on rules place t words tasks) place (At t words tasks false)

  -- the turn passes to the next position; without one the phase's end is put in front
  abbrev pub pass_or_end : Option ℕ → Table G → List ℕ → List Task → Step G
  pass_or_end place t words tasks = option_map_or (λ place. pass_on rules place t words tasks) place (At t words (by_itself EndPhase ∷ tasks) true)

  abbrev pub end_turn_to : Option ℕ → Table G → List ℕ → List Task → Step G
  end_turn_to (Some seat) t words tasks = pass_to (position (nat_eq seat) t.ctx.order) t words tasks
  end_turn_to None t words tasks = pass_or_end (next (turn_row rules.sheet t.ctx).order t.ctx.pos (length t.ctx.order)) t words tasks

  abbrev pub end_turn : Option ℕ → Table G → List ℕ → List Task → Step G
  end_turn to t words tasks = if nat_lt t.ctx.moves (turn_row rules.sheet t.ctx).min_moves then At t words tasks false else end_turn_to to t words tasks

  abbrev pub end_phase : Option ℕ → Table G → List ℕ → List Task → Step G
  end_phase phase t words tasks = option_map_or (λ phase. enter rules (phase_after rules.sheet phase) t words tasks) phase (At t words tasks false)

  -- the match is over, and the hook runs; all other tasks are dropped
  abbrev pub end_game : Table G → List ℕ → Step G
  end_game t words = ended_with t (rules.game_end t.g t.ctx words)

  -- what a task does
  abbrev pub run : Event → Option ℕ → Table G → List ℕ → List Task → Step G
  run (EndTurn to) speaker t words tasks = end_turn to t words tasks
  run EndPhase speaker t words tasks = end_phase t.ctx.phase t words tasks
  run (SetPhase to) speaker t words tasks = enter rules (Some to) t words tasks
  run (SetActive spec) speaker t words tasks = At (with_active (set rules.sheet spec t.ctx.current t.ctx.order t.active) t) words tasks false
  run (SetStage to) speaker t words tasks = At (with_active (set_stage (speaking speaker t.ctx) to t.active) t) words tasks false
  run EndStage speaker t words tasks = At (with_active (end_stage rules.sheet (speaking speaker t.ctx) t.ctx.current t.ctx.order t.active) t) words tasks false
  run (EndGame outcome) speaker t words tasks = end_game (over outcome t) words

-- nothing is left to do once the match is over, or with no task left; else the first task is next
abbrev pub next_by : {G : Type 0} → Option Outcome → Table G → List ℕ → List Task → (Task → List Task → Step G) → Step G
next_by (Some outcome) t words tasks go = At t words [] false
next_by None t words [] go = At t words [] false
next_by None t words (task ∷ tasks) go = go task tasks

-- a table settled, where so many tasks may still begin; `after` says that the last one was a turn's end that put a phase's end in front
unfoldable pub settle : {G : Type 0} → Rules G → ℕ → Table G → List ℕ → List Task → Bool → Step G
settle rules zero t words tasks after = next_by t.ctx.over t words (with_automatic rules after t tasks) (λ task rest. Ends TooManyEvents)
settle rules (suc n) t words tasks after =
    next_by t.ctx.over t words (with_automatic rules after t tasks) (λ task rest. carry_on (run rules task.event task.speaker t words rest) (settle rules n))
