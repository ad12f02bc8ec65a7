-- What the calls of the flow come to: the beginning of a match, a move that was played, and an event that a player asks for.
use Rattle.std.specs.Prelude.{ℕ, ◌+◌, Bool, true, false, if◌then◌else◌, nat_eq, nat_lt, List, [], ◌∷◌, Some, None}
use Rattle.game_sheet.specs.declared.act.Event.{Event}
use Rattle.game_sheet.specs.declared.act.Event.TheVariants.{EndTurn, EndStage}
use Rattle.game_sheet.specs.declared.ctx.Ctx.{Ctx}
use Rattle.game_sheet.specs.declared.refusal.GameRule.TheVariants.{TooEarly}
use Rattle.game_sheet.specs.declared.sheet.Sheet.{Sheet}
use Rattle.game_trait.specs.Deed.{Deed, Done, GaveUp, Lack}
use Rattle.game_trait.specs.Rules.{Rules}
use Rattle.stage_map.specs.Active.{is_below, none}
use Rattle.stage_map.specs.Stages.{count_move}
use Rattle.turn_order.specs.PlayOrder.{all_seats}
use Rattle.phase_flow.specs.declared.table.Table.{Table}
use Rattle.phase_flow.specs.Rows.{start_phase, turn_row}
use Rattle.phase_flow.specs.Settle.{settle}
use Rattle.phase_flow.specs.Step.{Ends, Step, carry_on, hooked, rule_of, spoken, spoken_by}
use Rattle.phase_flow.specs.Turns.{phase_entered, with_active}

-- before the first phase and turn
abbrev pub opening : ℕ → Ctx
opening seats = record { seats = seats; turn = 0; current = 0; order = all_seats seats; pos = 0; phase = None; active = None; moves = 0; over = None }

abbrev pub fresh : {G : Type 0} → ℕ → G → Table G
fresh seats g = record { g = g; ctx = opening seats; active = none }

-- a move that counts, counts for the turn and for its seat on the map
-- a move counts for the turn where it is the current seat's
abbrev pub with_count : {G : Type 0} → Sheet → Bool → ℕ → Table G → Table G
with_count sheet false seat t = t
with_count sheet true seat t = with_active (count_move sheet seat t.ctx.current t.ctx.order t.active)
    (record t { ctx = record t.ctx { moves = if nat_eq seat t.ctx.current then t.ctx.moves + 1 else t.ctx.moves } })

-- a turn or a stage that a player would end before its least count of moves
abbrev pub is_early : {G : Type 0} → Sheet → ℕ → Event → Table G → Bool
is_early sheet seat (EndTurn to) t = nat_lt t.ctx.moves (turn_row sheet t.ctx).min_moves
is_early sheet seat EndStage t = is_below t.active seat
is_early sheet seat event t = false

module _ {G : Type 0} (rules : Rules G) where
  -- the first phase begins, or the time without one
  abbrev pub opened : Table G → List ℕ → Step G
  opened t words = carry_on (phase_entered rules true (start_phase rules.sheet) t words []) (settle rules 64)

  abbrev pub set_up : ℕ → Deed G Lack → Step G
  set_up seats (Done g words events) = opened (fresh seats g) words
  set_up seats (GaveUp lack) = Ends (rule_of lack)

  -- the beginning of a match with so many seats
  unfoldable pub begin : ℕ → List ℕ → Step G
  begin seats words = set_up seats (rules.setup seats words)

  -- after a move's own events come those of the hook
  abbrev pub after_move : ℕ → Table G → List ℕ → List Event → Step G
  after_move seat t words events = hooked (Some seat) t (spoken_by (Some seat) events) (rules.on_move t.g t.ctx seat words)

  -- a seat's move was played, which made this table's state and queued these events
  unfoldable pub moved : ℕ → Bool → Table G → List ℕ → List Event → Step G
  moved seat counts t words events = carry_on (after_move seat (with_count rules.sheet counts seat t) words events) (settle rules 64)

  -- a seat asks for an event
  unfoldable pub run_event : ℕ → Event → Table G → List ℕ → Step G
  run_event seat event t words = if is_early rules.sheet seat event t then Ends TooEarly else settle rules 64 t words (spoken (Some seat) event ∷ []) false
