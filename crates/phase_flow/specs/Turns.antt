-- How turns and phases begin and end. A hook reads the table as it stands when it runs, and its events go to the end of the tasks.
use Rattle.std.specs.Prelude.{ℕ, ◌+◌, Bool, false, List, length, slice_index, Option, None}
use Rattle.game_sheet.specs.declared.sheet.Sheet.{Sheet}
use Rattle.game_trait.specs.Rules.{Rules}
use Rattle.stage_map.specs.Active.{Map, none, shown}
use Rattle.stage_map.specs.Set.{set}
use Rattle.turn_order.specs.Position.{first}
use Rattle.phase_flow.specs.declared.table.Table.{Table}
use Rattle.phase_flow.specs.declared.task.Task.{Task}
use Rattle.phase_flow.specs.Rows.{order_list, turn_row}
use Rattle.phase_flow.specs.Step.{At, Step, and_then, hooked}
use Rattle.std.specs.Option.{option_map_or}

-- whoever changes the map changes what the context shows of it
abbrev pub with_active : {G : Type 0} → Map → Table G → Table G
with_active m t = record t { active = m; ctx = record t.ctx { active = shown m } }

-- the turn of the seat at a place of the play order stands, with no move made and no map
abbrev pub turned : {G : Type 0} → ℕ → Table G → Table G
turned place t = with_active none (record t { ctx = record t.ctx { turn = t.ctx.turn + 1; current = slice_index t.ctx.order place; pos = place; moves = 0 } })

abbrev pub spec_set : {G : Type 0} → Sheet → Option ℕ → Table G → Table G
spec_set sheet spec t = option_map_or (λ spec. with_active (set sheet spec t.ctx.current t.ctx.order t.active) t) spec t

abbrev pub in_phase : {G : Type 0} → Option ℕ → Table G → Table G
in_phase phase t = record t { ctx = record t.ctx { phase = phase } }

abbrev pub ordered : {G : Type 0} → List ℕ → Table G → Table G
ordered order t = record t { ctx = record t.ctx { order = order } }

module _ {G : Type 0} (rules : Rules G) where
  abbrev pub turn_begun : Table G → List ℕ → List Task → Step G
  turn_begun t words tasks = hooked None t tasks (rules.turn_begin t.g t.ctx words)

  abbrev pub turn_ended : Table G → List ℕ → List Task → Step G
  turn_ended t words tasks = hooked None t tasks (rules.turn_end t.g t.ctx words)

  abbrev pub phase_begun : Option ℕ → Table G → List ℕ → List Task → Step G
  phase_begun phase t words tasks = option_map_or (λ phase. hooked None t tasks (rules.phase_begin t.g t.ctx phase words)) phase (At t words tasks false)

  abbrev pub phase_ended : Option ℕ → Table G → List ℕ → List Task → Step G
  phase_ended phase t words tasks = option_map_or (λ phase. hooked None t tasks (rules.phase_end t.g t.ctx phase words)) phase (At t words tasks false)

  -- the turn of the seat at a place of the play order begins: its spec is set, and its hook runs
  abbrev pub turn : ℕ → Table G → List ℕ → List Task → Step G
  turn place t words tasks = turn_begun (spec_set rules.sheet (turn_row rules.sheet t.ctx).active (turned place t)) words tasks

  -- the turn in hand ends, and that of the seat at a place begins
  abbrev pub pass_on : ℕ → Table G → List ℕ → List Task → Step G
  pass_on place t words tasks = and_then (turn_ended t words tasks) (turn place)

  -- the play order of the turn row is taken, and the turn of its first position begins
  abbrev pub order_begun : Bool → Table G → List ℕ → List Task → Step G
  order_begun at_start t words tasks = let row = turn_row rules.sheet t.ctx in
      let order = order_list row.order t.ctx.seats (rules.play_order t.g t.ctx) in turn (first row.order at_start t.ctx.pos (length order)) (ordered order t) words tasks

  -- a phase, or a time without one, begins
  abbrev pub phase_entered : Bool → Option ℕ → Table G → List ℕ → List Task → Step G
  phase_entered at_start phase t words tasks = and_then (phase_begun phase (in_phase phase t) words tasks) (order_begun at_start)

  abbrev pub phase_left : Option ℕ → Table G → List ℕ → List Task → Step G
  phase_left next t words tasks = and_then (phase_ended t.ctx.phase t words tasks) (phase_entered false next)

  -- the turn and the phase in hand end, and another phase, or none, begins
  abbrev pub enter : Option ℕ → Table G → List ℕ → List Task → Step G
  enter next t words tasks = and_then (turn_ended t words tasks) (phase_left next)
