-- The flow keeps a table sound: each part of it does, hence each task, hence the whole settling.
use Rattle.std.proofs.Common.{◌≡◌, ℕ, zero, suc, ◌+◌, ◌<◌, ◌≤◌, Bool, true, false, ◌||◌, nat_eq, nat_lt, if◌then◌else◌, List, [], ◌∷◌, ◌++◌, length, get_or, Option, Some, None, Result, Ok, Err, IfOk, position, slice_get, option_and_then, arith, refl, sym, subst}
use Rattle.game_sheet.specs.SheetFits.{SheetFits}
use Rattle.game_sheet.specs.declared.act.Event.{Event}
use Rattle.game_sheet.specs.declared.act.Event.TheVariants.{EndTurn, EndPhase, SetPhase, EndStage, SetStage, SetActive, EndGame}
use Rattle.game_sheet.specs.declared.act.Outcome.{Outcome}
use Rattle.game_sheet.specs.declared.ctx.Ctx.{Ctx}
use Rattle.game_sheet.specs.declared.refusal.GameRule.TheVariants.{TooEarly}
use Rattle.game_sheet.specs.declared.sheet.PhaseRow.{PhaseRow}
use Rattle.game_sheet.specs.declared.sheet.Sheet.{Sheet}
use Rattle.game_sheet.specs.declared.sheet.TurnRow.{TurnRow}
use Rattle.game_trait.specs.Deed.{Deed, Done, GaveUp, Lack}
use Rattle.game_trait.specs.InSheet.{EventInSheet}
use Rattle.game_trait.specs.Queues.{AllInSheet, KeepsToSheet, QueuesInSheet}
use Rattle.game_trait.specs.Rules.{Rules}
use Rattle.stage_map.specs.Active.{Map, none}
use Rattle.stage_map.specs.Laws.{BoundGrows, CountMoveKeeps, EndStageKeeps, IsSoundIn, NullIsSound, SetKeeps, SetStageKeeps, Suits}
use Rattle.stage_map.specs.Set.{set}
use Rattle.stage_map.specs.Stages.{end_stage, set_stage}
use Rattle.turn_order.specs.PlayOrder.{IsPlayOrder}
use Rattle.turn_order.specs.Position.{first, next}
use Rattle.phase_flow.specs.declared.flow_no.FlowNo.{FlowNo}
use Rattle.phase_flow.specs.declared.table.Table.{Table}
use Rattle.phase_flow.specs.declared.task.Task.{Task}
use Rattle.phase_flow.specs.Automatic.{automatic, phase_ended as phase_says, turn_ended as turn_says, is_full, with_automatic}
use Rattle.phase_flow.specs.Comes.{Settles}
use Rattle.phase_flow.specs.Flow.{after_move, begin, fresh, is_early, moved, run_event, set_up, with_count}
use Rattle.phase_flow.specs.IsSound.{IsSound}
use Rattle.phase_flow.specs.Rows.{order_list, phase_after, start_phase, turn_row}
use Rattle.phase_flow.specs.Settle.{end_phase, end_turn, end_turn_to, next_by, over, pass_or_end, pass_to, run, settle, speaking}
use Rattle.phase_flow.specs.Step.{At, Ends, Step, and_then, by_itself, carry_on, ended_with, hooked, spoken, spoken_by}
use Rattle.phase_flow.specs.Turns.{enter, in_phase, order_begun, ordered, pass_on, phase_ended, phase_entered, phase_left, spec_set, turn, turn_ended, turned, with_active}
use Rattle.phase_flow.proofs.Fits.{all_seats_serve, first_inside, next_inside, order_list_serves, place_inside, position_inside}
use Rattle.std.specs.Option.{option_map_or}

-- what the operations on maps keep
pub record MapLaws : Type 0 where
  pub null : NullIsSound
  pub set : SetKeeps
  pub set_stage : SetStageKeeps
  pub end_stage : EndStageKeeps
  pub count_move : CountMoveKeeps
  pub greater_bound : BoundGrows

abbrev IsSeat : ℕ → Option ℕ → Type 0
IsSeat seats None = Unit {0}
IsSeat seats (Some seat) = seat < seats

-- what an event names is a row of the sheet, whatever the outcome that it ends a match with
abbrev NamesRows : Sheet → Event → Type 0
NamesRows sheet (EndTurn to) = Unit {0}
NamesRows sheet EndPhase = Unit {0}
NamesRows sheet (SetPhase to) = to < length sheet.phases
NamesRows sheet EndStage = Unit {0}
NamesRows sheet (SetStage to) = to < length sheet.stages
NamesRows sheet (SetActive spec) = spec < length sheet.specs
NamesRows sheet (EndGame outcome) = Unit {0}

names_rows : (sheet : Sheet) (event : Event) → EventInSheet sheet event → NamesRows sheet event
names_rows sheet (EndTurn to) e = tt
names_rows sheet EndPhase e = tt
names_rows sheet (SetPhase to) e = e
names_rows sheet EndStage e = tt
names_rows sheet (SetStage to) e = e
names_rows sheet (SetActive spec) e = e
names_rows sheet (EndGame outcome) e = tt

-- tasks name rows of the sheet and seats of the match alone
abbrev TasksFit : Sheet → ℕ → List Task → Type 0
TasksFit sheet seats [] = Unit {0}
TasksFit sheet seats (task ∷ tasks) = NamesRows sheet task.event × IsSeat seats task.speaker × TasksFit sheet seats tasks

tasks_more : (sheet : Sheet) (seats : ℕ) (tasks more : List Task) → TasksFit sheet seats tasks → TasksFit sheet seats more → TasksFit sheet seats (tasks ++ more)
tasks_more sheet seats [] more t m = m
tasks_more sheet seats (task ∷ tasks) more t m = (t.0, t.1, tasks_more sheet seats tasks more t.2 m)

spoken_fit : (sheet : Sheet) (seats : ℕ) (who : Option ℕ) (events : List Event) → IsSeat seats who → AllInSheet sheet events → TasksFit sheet seats (spoken_by who events)
spoken_fit sheet seats who [] w e = tt
spoken_fit sheet seats who (event ∷ events) w e = (names_rows sheet event e.0, w, spoken_fit sheet seats who events w e.1)

abbrev Fits : Sheet → ℕ → Option Task → Type 0
Fits sheet seats None = Unit {0}
Fits sheet seats (Some task) = NamesRows sheet task.event × IsSeat seats task.speaker

front_fit : (sheet : Sheet) (seats : ℕ) (o : Option Task) (tasks : List Task) → Fits sheet seats o → TasksFit sheet seats tasks → TasksFit sheet seats (option_map_or (λ task. task ∷ tasks) o tasks)
front_fit sheet seats None tasks f t = t
front_fit sheet seats (Some task) tasks f t = (f.0, f.1, t)

turn_says_fits : (sheet : Sheet) (seats : ℕ) (row : TurnRow) (ctx : Ctx) (says : Bool) → Fits sheet seats (turn_says row ctx says)
turn_says_fits sheet seats row ctx says =
    elim (nat_lt ctx.moves row.min_moves) as (λ few. Fits sheet seats (if few then None else (if says || is_full row.max_moves ctx then Some (by_itself (EndTurn None)) else None)))
    [ true ↦ tt | false ↦ elim (says || is_full row.max_moves ctx) as (λ is. Fits sheet seats (if is then Some (by_itself (EndTurn None)) else None)) [ true ↦ (tt, tt) | false ↦ tt ] ]

phase_says_fits : (sheet : Sheet) (seats : ℕ) (phase : Option ℕ) (says : Bool) (o : Option Task) → Fits sheet seats o → Fits sheet seats (phase_says phase says o)
phase_says_fits sheet seats None says o f = f
phase_says_fits sheet seats (Some phase) true o f = (tt, tt)
phase_says_fits sheet seats (Some phase) false o f = f

match_says_fits : (sheet : Sheet) (seats : ℕ) (outcome : Option Outcome) (o : Option Task) → Fits sheet seats o → Fits sheet seats (option_map_or (λ outcome. Some (by_itself (EndGame outcome))) outcome o)
match_says_fits sheet seats None o f = f
match_says_fits sheet seats (Some outcome) o f = (tt, tt)

module _ {G : Type 0} (rules : Rules G) where
  automatic_fits : (t : Table G) → Fits rules.sheet t.ctx.seats (automatic rules t)
  automatic_fits t =
      match_says_fits rules.sheet t.ctx.seats (rules.end_if t.g t.ctx) _
      (phase_says_fits rules.sheet t.ctx.seats t.ctx.phase (rules.phase_end_if t.g t.ctx) _
      (turn_says_fits rules.sheet t.ctx.seats (turn_row rules.sheet t.ctx) t.ctx (rules.turn_end_if t.g t.ctx)))

  pub with_automatic_fits : (after : Bool) (t : Table G) (tasks : List Task) → TasksFit rules.sheet t.ctx.seats tasks → TasksFit rules.sheet t.ctx.seats (with_automatic rules after t tasks)
  with_automatic_fits true t tasks f = f
  with_automatic_fits false t tasks f = front_fit rules.sheet t.ctx.seats (automatic rules t) tasks (automatic_fits t) f

-- a step comes to a sound table and to tasks that fit
abbrev pub StepFits : {G : Type 0} → Sheet → ℕ → Step G → Type 0
StepFits sheet most (At t words tasks after) = IsSound sheet most t.ctx t.active × TasksFit sheet t.ctx.seats tasks
StepFits sheet most (Ends rule) = Unit {0}

module _ {G : Type 0} (sheet : Sheet) (most : ℕ) where
  then_fits : (s : Step G) (f : Table G → List ℕ → List Task → Step G) → StepFits sheet most s
      → ((t : Table G) (words : List ℕ) (tasks : List Task) → IsSound sheet most t.ctx t.active → TasksFit sheet t.ctx.seats tasks → StepFits sheet most (f t words tasks)) → StepFits sheet most (and_then s f)
  then_fits (At t words tasks after) f s h = h t words tasks s.0 s.1
  then_fits (Ends rule) f s h = tt

  carry_fits : (s : Step G) (f : Table G → List ℕ → List Task → Bool → Step G) → StepFits sheet most s
      → ((t : Table G) (words : List ℕ) (tasks : List Task) (after : Bool) → IsSound sheet most t.ctx t.active → TasksFit sheet t.ctx.seats tasks → StepFits sheet most (f t words tasks after)) → StepFits sheet most (carry_on s f)
  carry_fits (At t words tasks after) f s h = h t words tasks after s.0 s.1
  carry_fits (Ends rule) f s h = tt

  hooked_fits : (who : Option ℕ) (t : Table G) (tasks : List Task) (deed : Deed G Lack) → IsSeat t.ctx.seats who → IsSound sheet most t.ctx t.active → TasksFit sheet t.ctx.seats tasks → QueuesInSheet sheet deed → StepFits sheet most (hooked who t tasks deed)
  hooked_fits who t tasks (Done g words events) w s f q = (s, tasks_more sheet t.ctx.seats tasks (spoken_by who events) f (spoken_fit sheet t.ctx.seats who events w q))
  hooked_fits who t tasks (GaveUp lack) w s f q = tt

  ended_fits : (t : Table G) (deed : Deed G Lack) → IsSound sheet most t.ctx t.active → StepFits sheet most (ended_with t deed)
  ended_fits t (Done g words events) s = (s, tt)
  ended_fits t (GaveUp lack) s = tt

suits : (sheet : Sheet) (most : ℕ) (ctx : Ctx) (active : Map) → SheetFits sheet → IsSound sheet most ctx active → Suits sheet ctx.seats ctx.current ctx.order
suits sheet most ctx active fits s =
    let at : get_or ctx.order ctx.pos 0 < ctx.seats = s.order.inside ctx.pos 0 s.pos in
    record { fits = fits; enough = s.seats_least; is_seat = subst (λ n. n < ctx.seats) s.current at; are_seats = s.order.inside }

active_sound : {G : Type 0} (sheet : Sheet) (most : ℕ) (m : Map) (t : Table G) → IsSound sheet most t.ctx t.active → IsSoundIn sheet t.ctx.seats most m → IsSound sheet most (with_active m t).ctx m
active_sound sheet most m t s h = record {
  seats_least = s.seats_least;
  seats_most = s.seats_most;
  order = s.order;
  pos = s.pos;
  current = s.current;
  phase = s.phase;
  map_sound = h;
  shows = refl;
  moves = s.moves;
}

-- what a table needs before a turn begins: no place is in force yet
record IsReady (sheet : Sheet) (ctx : Ctx) : Type 0 where
  pub seats_least : sheet.min_seats ≤ ctx.seats
  pub seats_most : ctx.seats ≤ sheet.max_seats
  pub order : IsPlayOrder ctx.seats ctx.order
  pub phase : (phase : ℕ) → ctx.phase ≡ Some phase → phase < length sheet.phases

ready : (sheet : Sheet) (most : ℕ) (ctx : Ctx) (active : Map) → IsSound sheet most ctx active → IsReady sheet ctx
ready sheet most ctx active s = record { seats_least = s.seats_least; seats_most = s.seats_most; order = s.order; phase = s.phase }

turned_sound : {G : Type 0} (sheet : Sheet) (most place : ℕ) (t : Table G) → NullIsSound → IsReady sheet t.ctx → place < length t.ctx.order → IsSound sheet most (turned place t).ctx none
turned_sound sheet most place t null s h = record {
  seats_least = s.seats_least;
  seats_most = s.seats_most;
  order = s.order;
  pos = h;
  current = refl;
  phase = s.phase;
  map_sound = null sheet t.ctx.seats most;
  shows = refl;
  moves = omega arith;
}

spec_set_sound : {G : Type 0} (sheet : Sheet) (most : ℕ) (spec : Option ℕ) (t : Table G) → SheetFits sheet → SetKeeps → IsSound sheet most t.ctx t.active → IsSound sheet most (spec_set sheet spec t).ctx (spec_set sheet spec t).active
spec_set_sound sheet most None t fits law s = s
spec_set_sound sheet most (Some spec) t fits law s =
    active_sound sheet most (set sheet spec t.ctx.current t.ctx.order t.active) t s
    (law sheet t.ctx.seats most spec t.ctx.current t.ctx.order t.active (suits sheet most t.ctx t.active fits s) s.map_sound)

-- setting a spec leaves the seats
spec_seats : {G : Type 0} (sheet : Sheet) (spec : Option ℕ) (t : Table G) → (spec_set sheet spec t).ctx.seats ≡ t.ctx.seats
spec_seats sheet None t = refl
spec_seats sheet (Some spec) t = refl

module _ {G : Type 0} (rules : Rules G) (most : ℕ) (fits : SheetFits rules.sheet) (keeps : KeepsToSheet rules) (laws : MapLaws) where
  abbrev Fit : Step G → Type 0
  Fit s = StepFits rules.sheet most s

  abbrev Sound : Table G → Type 0
  Sound t = IsSound rules.sheet most t.ctx t.active

  turn_fits : (place : ℕ) (t : Table G) (words : List ℕ) (tasks : List Task) → IsReady rules.sheet t.ctx → place < length t.ctx.order → TasksFit rules.sheet t.ctx.seats tasks → Fit (turn rules place t words tasks)
  turn_fits place t words tasks s h f =
      let spec = (turn_row rules.sheet t.ctx).active in
      let begun = spec_set rules.sheet spec (turned place t) in
      hooked_fits rules.sheet most None begun tasks (rules.turn_begin begun.g begun.ctx words) tt
      (spec_set_sound rules.sheet most spec (turned place t) fits laws.set (turned_sound rules.sheet most place t laws.null s h))
      (subst (λ seats. TasksFit rules.sheet seats tasks) (sym (spec_seats rules.sheet spec (turned place t))) f)
      (keeps.turn_begin begun.g begun.ctx words)

  turn_ended_fits : (t : Table G) (words : List ℕ) (tasks : List Task) → Sound t → TasksFit rules.sheet t.ctx.seats tasks → Fit (turn_ended rules t words tasks)
  turn_ended_fits t words tasks s f = hooked_fits rules.sheet most None t tasks (rules.turn_end t.g t.ctx words) tt s f (keeps.turn_end t.g t.ctx words)

  pass_on_fits : (place : ℕ) (t : Table G) (words : List ℕ) (tasks : List Task) → place < length t.ctx.order → Sound t → TasksFit rules.sheet t.ctx.seats tasks → Fit (pass_on rules place t words tasks)
  pass_on_fits place t words tasks h s f = pass_hooked place t tasks (rules.turn_end t.g t.ctx words) h s f (keeps.turn_end t.g t.ctx words)
    where
      pass_hooked : (place : ℕ) (t : Table G) (tasks : List Task) (deed : Deed G Lack) → place < length t.ctx.order → Sound t → TasksFit rules.sheet t.ctx.seats tasks → QueuesInSheet rules.sheet deed → Fit (and_then (hooked None t tasks deed) (turn rules place))
      pass_hooked place t tasks (Done g words events) h s f q =
          turn_fits place (record t { g = g }) words (tasks ++ spoken_by None events) (ready rules.sheet most t.ctx t.active s) h
          (tasks_more rules.sheet t.ctx.seats tasks (spoken_by None events) f (spoken_fit rules.sheet t.ctx.seats None events tt q))
      pass_hooked place t tasks (GaveUp lack) h s f q = tt

  -- between a phase's naming and its order the place may be none of the order's: hooks leave the context
  order_begun_fits : (at_start : Bool) (t : Table G) (words : List ℕ) (tasks : List Task) → IsReady rules.sheet t.ctx → TasksFit rules.sheet t.ctx.seats tasks → Fit (order_begun rules at_start t words tasks)
  order_begun_fits at_start t words tasks s f =
      let row = turn_row rules.sheet t.ctx in
      let order = order_list row.order t.ctx.seats (rules.play_order t.g t.ctx) in
      let serves = order_list_serves rules.sheet t.ctx (rules.play_order t.g t.ctx) fits s.seats_least s.seats_most in
      turn_fits (first row.order at_start t.ctx.pos (length order)) (ordered order t) words tasks
      (record { seats_least = s.seats_least; seats_most = s.seats_most; order = serves; phase = s.phase })
      (first_inside row.order at_start t.ctx.pos (length order) serves.least) f

  abbrev InSheet : Option ℕ → Type 0
  InSheet phase = (named : ℕ) → phase ≡ Some named → named < length rules.sheet.phases

  entered_fits : (at_start : Bool) (phase : Option ℕ) (t : Table G) (words : List ℕ) (tasks : List Task) → InSheet phase → IsReady rules.sheet t.ctx → TasksFit rules.sheet t.ctx.seats tasks → Fit (phase_entered rules at_start phase t words tasks)
  entered_fits at_start None t words tasks p s f =
      order_begun_fits at_start (in_phase None t) words tasks (record { seats_least = s.seats_least; seats_most = s.seats_most; order = s.order; phase = p }) f
  entered_fits at_start (Some phase) t words tasks p s f =
      let named = in_phase (Some phase) t in
      begun_fits at_start named tasks (rules.phase_begin named.g named.ctx phase words)
      (record { seats_least = s.seats_least; seats_most = s.seats_most; order = s.order; phase = p }) f (keeps.phase_begin named.g named.ctx phase words)
    where
      begun_fits : (at_start : Bool) (t : Table G) (tasks : List Task) (deed : Deed G Lack) → IsReady rules.sheet t.ctx → TasksFit rules.sheet t.ctx.seats tasks → QueuesInSheet rules.sheet deed → Fit (and_then (hooked None t tasks deed) (order_begun rules at_start))
      begun_fits at_start t tasks (Done g words events) s f q =
          order_begun_fits at_start (record t { g = g }) words (tasks ++ spoken_by None events) s
          (tasks_more rules.sheet t.ctx.seats tasks (spoken_by None events) f (spoken_fit rules.sheet t.ctx.seats None events tt q))
      begun_fits at_start t tasks (GaveUp lack) s f q = tt

  ended_phase_fits : (phase : Option ℕ) (t : Table G) (words : List ℕ) (tasks : List Task) → Sound t → TasksFit rules.sheet t.ctx.seats tasks → Fit (phase_ended rules phase t words tasks)
  ended_phase_fits None t words tasks s f = (s, f)
  ended_phase_fits (Some phase) t words tasks s f = hooked_fits rules.sheet most None t tasks (rules.phase_end t.g t.ctx phase words) tt s f (keeps.phase_end t.g t.ctx phase words)

  left_fits : (next : Option ℕ) (t : Table G) (words : List ℕ) (tasks : List Task) → InSheet next → Sound t → TasksFit rules.sheet t.ctx.seats tasks → Fit (phase_left rules next t words tasks)
  left_fits next t words tasks p s f =
      then_fits rules.sheet most (phase_ended rules t.ctx.phase t words tasks) (phase_entered rules false next) (ended_phase_fits t.ctx.phase t words tasks s f)
      (λ t words tasks s f. entered_fits false next t words tasks p (ready rules.sheet most t.ctx t.active s) f)

  enter_fits : (next : Option ℕ) (t : Table G) (words : List ℕ) (tasks : List Task) → InSheet next → Sound t → TasksFit rules.sheet t.ctx.seats tasks → Fit (enter rules next t words tasks)
  enter_fits next t words tasks p s f =
      then_fits rules.sheet most (turn_ended rules t words tasks) (phase_left rules next) (turn_ended_fits t words tasks s f) (λ t words tasks s f. left_fits next t words tasks p s f)

  pass_to_fits : (place : Option ℕ) (t : Table G) (words : List ℕ) (tasks : List Task) → ((p : ℕ) → place ≡ Some p → p < length t.ctx.order) → Sound t → TasksFit rules.sheet t.ctx.seats tasks → Fit (pass_to rules place t words tasks)
  pass_to_fits None t words tasks h s f = (s, f)
  pass_to_fits (Some place) t words tasks h s f = pass_on_fits place t words tasks (h place refl) s f

  pass_or_end_fits : (place : Option ℕ) (t : Table G) (words : List ℕ) (tasks : List Task) → ((p : ℕ) → place ≡ Some p → p < length t.ctx.order) → Sound t → TasksFit rules.sheet t.ctx.seats tasks → Fit (pass_or_end rules place t words tasks)
  pass_or_end_fits None t words tasks h s f = (s, (tt, tt, f))
  pass_or_end_fits (Some place) t words tasks h s f = pass_on_fits place t words tasks (h place refl) s f

  end_turn_to_fits : (to : Option ℕ) (t : Table G) (words : List ℕ) (tasks : List Task) → Sound t → TasksFit rules.sheet t.ctx.seats tasks → Fit (end_turn_to rules to t words tasks)
  end_turn_to_fits (Some seat) t words tasks s f = pass_to_fits (position (nat_eq seat) t.ctx.order) t words tasks (position_inside seat t.ctx.order) s f
  end_turn_to_fits None t words tasks s f =
      let order = (turn_row rules.sheet t.ctx).order in
      pass_or_end_fits (next order t.ctx.pos (length t.ctx.order)) t words tasks (λ p e. next_inside order t.ctx.pos (length t.ctx.order) p s.pos e) s f

  end_turn_fits : (to : Option ℕ) (t : Table G) (words : List ℕ) (tasks : List Task) → Sound t → TasksFit rules.sheet t.ctx.seats tasks → Fit (end_turn rules to t words tasks)
  end_turn_fits to t words tasks s f =
      elim (nat_lt t.ctx.moves (turn_row rules.sheet t.ctx).min_moves) as (λ few. Fit (if few then At t words tasks false else end_turn_to rules to t words tasks)) [ true ↦ (s, f) | false ↦ end_turn_to_fits to t words tasks s f ]

  after_in_sheet : (phase : ℕ) (o : Option PhaseRow) → slice_get rules.sheet.phases phase ≡ o → InSheet (option_and_then (λ (row : PhaseRow). row.next) o)
  after_in_sheet phase None e named n = cc
  after_in_sheet phase (Some row) e named n = (fits.phase phase row e).next named n

  end_phase_fits : (phase : Option ℕ) (t : Table G) (words : List ℕ) (tasks : List Task) → Sound t → TasksFit rules.sheet t.ctx.seats tasks → Fit (end_phase rules phase t words tasks)
  end_phase_fits None t words tasks s f = (s, f)
  end_phase_fits (Some phase) t words tasks s f = enter_fits (phase_after rules.sheet phase) t words tasks (after_in_sheet phase (slice_get rules.sheet.phases phase) refl) s f

  current_seat : (t : Table G) → Sound t → t.ctx.current < t.ctx.seats
  current_seat t s = (suits rules.sheet most t.ctx t.active fits s).is_seat

  speaking_seat : (who : Option ℕ) (t : Table G) → IsSeat t.ctx.seats who → Sound t → speaking who t.ctx < t.ctx.seats
  speaking_seat None t w s = current_seat t s
  speaking_seat (Some seat) t w s = w

  named_in_sheet : (phase : ℕ) → phase < length rules.sheet.phases → InSheet (Some phase)
  named_in_sheet phase h named e = let same : phase ≡ named = cc in subst (λ p. p < length rules.sheet.phases) same h

  run_fits : (event : Event) (who : Option ℕ) (t : Table G) (words : List ℕ) (tasks : List Task) → NamesRows rules.sheet event → IsSeat t.ctx.seats who → Sound t → TasksFit rules.sheet t.ctx.seats tasks → Fit (run rules event who t words tasks)
  run_fits (EndTurn to) who t words tasks e w s f = end_turn_fits to t words tasks s f
  run_fits EndPhase who t words tasks e w s f = end_phase_fits t.ctx.phase t words tasks s f
  run_fits (SetPhase to) who t words tasks e w s f = enter_fits (Some to) t words tasks (named_in_sheet to e) s f
  run_fits (SetActive spec) who t words tasks e w s f = (
    active_sound rules.sheet most (set rules.sheet spec t.ctx.current t.ctx.order t.active) t s
        (laws.set rules.sheet t.ctx.seats most spec t.ctx.current t.ctx.order t.active (suits rules.sheet most t.ctx t.active fits s) s.map_sound),
    f,
  )
  run_fits (SetStage to) who t words tasks e w s f = (
    active_sound rules.sheet most (set_stage (speaking who t.ctx) to t.active) t s
        (laws.set_stage rules.sheet t.ctx.seats most (speaking who t.ctx) to t.active (speaking_seat who t w s) e s.map_sound),
    f,
  )
  run_fits EndStage who t words tasks e w s f = (
    active_sound rules.sheet most (end_stage rules.sheet (speaking who t.ctx) t.ctx.current t.ctx.order t.active) t s
        (laws.end_stage rules.sheet t.ctx.seats most (speaking who t.ctx) t.ctx.current t.ctx.order t.active (suits rules.sheet most t.ctx t.active fits s) s.map_sound),
    f,
  )
  run_fits (EndGame outcome) who t words tasks e w s f = ended_fits rules.sheet most (over outcome t) (rules.game_end t.g (over outcome t).ctx words) (over_sound outcome t s)
    where
      over_sound : (outcome : Outcome) (t : Table G) → Sound t → IsSound rules.sheet most (over outcome t).ctx t.active
      over_sound outcome t s = record {
        seats_least = s.seats_least;
        seats_most = s.seats_most;
        order = s.order;
        pos = s.pos;
        current = s.current;
        phase = s.phase;
        map_sound = s.map_sound;
        shows = s.shows;
        moves = s.moves;
      }

  next_fits : (over : Option Outcome) (t : Table G) (words : List ℕ) (tasks : List Task) (go : Task → List Task → Step G) → Sound t → TasksFit rules.sheet t.ctx.seats tasks
      → ((task : Task) (rest : List Task) → NamesRows rules.sheet task.event → IsSeat t.ctx.seats task.speaker → TasksFit rules.sheet t.ctx.seats rest → Fit (go task rest)) → Fit (next_by over t words tasks go)
  next_fits (Some outcome) t words tasks go s f h = (s, tt)
  next_fits None t words [] go s f h = (s, tt)
  next_fits None t words (task ∷ tasks) go s f h = h task tasks f.0 f.1 f.2

  -- settling leaves a sound table
  pub settle_fits : (n : ℕ) (t : Table G) (words : List ℕ) (tasks : List Task) (after : Bool) → Sound t → TasksFit rules.sheet t.ctx.seats tasks → Fit (settle rules n t words tasks after)
  unfolding settle
  settle_fits zero t words tasks after s f = next_fits t.ctx.over t words (with_automatic rules after t tasks) _ s (with_automatic_fits rules after t tasks f) (λ task rest e w r. tt)
  settle_fits (suc n) t words tasks after s f =
      next_fits t.ctx.over t words (with_automatic rules after t tasks) (λ task rest. carry_on (run rules task.event task.speaker t words rest) (settle rules n)) s (with_automatic_fits rules after t tasks f)
      (λ task rest e w r. carry_fits rules.sheet most (run rules task.event task.speaker t words rest) (settle rules n) (run_fits task.event task.speaker t words rest e w s r)
      (λ t words tasks after s f. settle_fits n t words tasks after s f))

start_in_sheet : (sheet : Sheet) (named : ℕ) → start_phase sheet ≡ Some named → named < length sheet.phases
start_in_sheet sheet named e = place_inside (λ (row : PhaseRow). row.start) sheet.phases named e

module _ {G : Type 0} (rules : Rules G) (fits : SheetFits rules.sheet) (keeps : KeepsToSheet rules) (laws : MapLaws) where
  set_up_fits : (seats : ℕ) (deed : Deed G Lack) → rules.sheet.min_seats ≤ seats → seats ≤ rules.sheet.max_seats → StepFits rules.sheet 0 (set_up rules seats deed)
  set_up_fits seats (Done g words events) least most =
      let few : seats ≤ 16 = omega (arith, fits.most) in
      let some : 1 ≤ seats = omega (arith, fits.least) in
      carry_fits rules.sheet 0 (phase_entered rules true (start_phase rules.sheet) (fresh seats g) words []) (settle rules 64)
      (entered_fits rules 0 fits keeps laws true (start_phase rules.sheet) (fresh seats g) words [] (start_in_sheet rules.sheet)
      (record { seats_least = least; seats_most = most; order = all_seats_serve seats some few; phase = λ phase e. cc }) tt)
      (λ t words tasks after s f. settle_fits rules 0 fits keeps laws 64 t words tasks after s f)
  set_up_fits seats (GaveUp lack) least most = tt

  pub begin_fits : (seats : ℕ) (words : List ℕ) → rules.sheet.min_seats ≤ seats → seats ≤ rules.sheet.max_seats → StepFits rules.sheet 0 (begin rules seats words)
  unfolding begin
  begin_fits seats words least most = set_up_fits seats (rules.setup seats words) least most

  moves_below : (is : Bool) (moves most : ℕ) → moves ≤ most → (if is then moves + 1 else moves) ≤ most + 1
  moves_below true moves most h = omega arith
  moves_below false moves most h = omega arith

  counted_sound : (most : ℕ) (is : Bool) (seat : ℕ) (t : Table G) → IsSound rules.sheet most t.ctx t.active → IsSound rules.sheet (most + 1) (with_count rules.sheet is seat t).ctx (with_count rules.sheet is seat t).active
  counted_sound most false seat t s = record {
    seats_least = s.seats_least;
    seats_most = s.seats_most;
    order = s.order;
    pos = s.pos;
    current = s.current;
    phase = s.phase;
    map_sound = laws.greater_bound rules.sheet t.ctx.seats most (most + 1) t.active (omega arith) s.map_sound;
    shows = s.shows;
    moves = omega (arith, s.moves);
  }
  counted_sound most true seat t s = record {
    seats_least = s.seats_least;
    seats_most = s.seats_most;
    order = s.order;
    pos = s.pos;
    current = s.current;
    phase = s.phase;
    map_sound = laws.count_move rules.sheet t.ctx.seats most seat t.ctx.current t.ctx.order t.active (suits rules.sheet most t.ctx t.active fits s) s.map_sound;
    shows = refl;
    moves = moves_below (nat_eq seat t.ctx.current) t.ctx.moves most s.moves;
  }

  counted_seats : (is : Bool) (seat : ℕ) (t : Table G) → (with_count rules.sheet is seat t).ctx.seats ≡ t.ctx.seats
  counted_seats true seat t = refl
  counted_seats false seat t = refl

  pub moved_fits : (most seat : ℕ) (is : Bool) (t : Table G) (words : List ℕ) (events : List Event) → IsSound rules.sheet most t.ctx t.active → seat < t.ctx.seats → AllInSheet rules.sheet events
      → StepFits rules.sheet (most + 1) (moved rules seat is t words events)
  unfolding moved
  moved_fits most seat is t words events s w e =
      let after = with_count rules.sheet is seat t in
      let seated : seat < after.ctx.seats = subst (λ seats. seat < seats) (sym (counted_seats is seat t)) w in
      carry_fits rules.sheet (most + 1) (after_move rules seat after words events) (settle rules 64)
      (hooked_fits rules.sheet (most + 1) (Some seat) after (spoken_by (Some seat) events) (rules.on_move after.g after.ctx seat words) seated
      (counted_sound most is seat t s) (spoken_fit rules.sheet after.ctx.seats (Some seat) events seated e) (keeps.on_move after.g after.ctx seat words))
      (λ t words tasks after s f. settle_fits rules (most + 1) fits keeps laws 64 t words tasks after s f)

  pub run_event_fits : (most seat : ℕ) (event : Event) (t : Table G) (words : List ℕ) → IsSound rules.sheet most t.ctx t.active → seat < t.ctx.seats → EventInSheet rules.sheet event
      → StepFits rules.sheet most (run_event rules seat event t words)
  unfolding run_event
  run_event_fits most seat event t words s w e =
      elim (is_early rules.sheet seat event t) as (λ early. StepFits rules.sheet most (if early then Ends TooEarly else settle rules 64 t words (spoken (Some seat) event ∷ []) false))
      [ true ↦ tt | false ↦ settle_fits rules most fits keeps laws 64 t words (spoken (Some seat) event ∷ []) false s (names_rows rules.sheet event e, w, tt) ]

-- what the code answers is as sound as what it means
pub settled_sound : {G : Type 0} (sheet : Sheet) (most : ℕ) (result : Result (Table G) FlowNo) (words : List ℕ) (meaning : Step G) → Settles result words meaning → StepFits sheet most meaning → IfOk result (λ t. IsSound sheet most t.ctx t.active)
settled_sound sheet most (Ok t) words meaning e s = (subst (StepFits sheet most) e s).0
settled_sound sheet most (Err why) words meaning e s = tt
