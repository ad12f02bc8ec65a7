-- The flow keeps a state the game's own, and the count of seats, each task takes at most one turn, and a match ends with an outcome that fits.
use Rattle.std.proofs.Common.{◌≡◌, ◌≤◌, ◌+◌, ℕ, zero, suc, Bool, true, false, IsTrue, ◌||◌, nat_eq, nat_lt, if◌then◌else◌, position, length, List, [], ◌∷◌, ◌++◌, Option, Some, None, IfSome, Ok, arith, refl, subst}
use Rattle.game_sheet.specs.declared.act.Act.{Act}
use Rattle.game_sheet.specs.declared.act.Act.TheVariants.{Move, Event as Asks, Undo, Redo}
use Rattle.game_sheet.specs.declared.act.Event.{Event}
use Rattle.game_sheet.specs.declared.act.Event.TheVariants.{EndTurn, EndPhase, SetPhase, EndStage, SetStage, SetActive, EndGame}
use Rattle.game_sheet.specs.declared.act.Outcome.{Outcome}
use Rattle.game_sheet.specs.declared.ctx.Ctx.{Ctx}
use Rattle.game_sheet.specs.declared.refusal.GameRule.TheVariants.{InvalidMove, TooEarly}
use Rattle.game_sheet.specs.declared.sheet.Sheet.{Sheet}
use Rattle.game_sheet.specs.declared.sheet.TurnRow.{TurnRow}
use Rattle.game_trait.specs.Deed.{Barred, Deed, Done, GaveUp, Invalid, Lack, Lacks}
use Rattle.game_trait.specs.InSheet.{ActInSheet, EventInSheet, OutcomeFits}
use Rattle.game_trait.specs.Lawful.{GivesOwn, Lawful}
use Rattle.game_trait.specs.Queues.{AllInSheet, KeepsToSheet, QueuesInSheet}
use Rattle.game_trait.specs.Rules.{Rules}
use Rattle.phase_flow.specs.Action as action
use Rattle.phase_flow.specs.Automatic.{automatic, is_full, phase_ended as phase_says, turn_ended as turn_says, with_automatic}
use Rattle.phase_flow.specs.Flow.{after_move, begin, fresh, is_early, moved, run_event, set_up, with_count}
use Rattle.phase_flow.specs.Reached.{Reached, reached, table_of}
use Rattle.phase_flow.specs.Rows.{order_list, phase_after, start_phase, turn_row}
use Rattle.phase_flow.specs.Settle.{end_game, end_phase, end_turn, end_turn_to, next_by, over, pass_or_end, pass_to, run, settle}
use Rattle.phase_flow.specs.Step.{At, Ends, Step, and_then, by_itself, carry_on, ended_with, hooked, spoken, spoken_by}
use Rattle.phase_flow.specs.Turns.{enter, in_phase, order_begun, ordered, pass_on, phase_ended, phase_entered, phase_left, spec_set, turn, turn_ended, turned}
use Rattle.phase_flow.specs.declared.table.Table.{Table}
use Rattle.phase_flow.specs.declared.task.Task.{Task}
use Rattle.turn_order.specs.Position.{first, next}
use Rattle.std.specs.Option.{option_map_or}

-- an event that ends the match ends it with an outcome that fits
abbrev EndsWell : Event → Type 0
EndsWell (EndTurn to) = Unit {0}
EndsWell EndPhase = Unit {0}
EndsWell (SetPhase to) = Unit {0}
EndsWell EndStage = Unit {0}
EndsWell (SetStage to) = Unit {0}
EndsWell (SetActive spec) = Unit {0}
EndsWell (EndGame outcome) = OutcomeFits outcome

pub ends_well : (sheet : Sheet) (event : Event) → EventInSheet sheet event → EndsWell event
ends_well sheet (EndTurn to) e = tt
ends_well sheet EndPhase e = tt
ends_well sheet (SetPhase to) e = tt
ends_well sheet EndStage e = tt
ends_well sheet (SetStage to) e = tt
ends_well sheet (SetActive spec) e = tt
ends_well sheet (EndGame outcome) e = e

abbrev AllEndWell : List Task → Type 0
AllEndWell [] = Unit {0}
AllEndWell (task ∷ tasks) = EndsWell task.event × AllEndWell tasks

more_end_well : (tasks more : List Task) → AllEndWell tasks → AllEndWell more → AllEndWell (tasks ++ more)
more_end_well [] more t m = m
more_end_well (task ∷ tasks) more t m = (t.0, more_end_well tasks more t.1 m)

spoken_end_well : (sheet : Sheet) (who : Option ℕ) (events : List Event) → AllInSheet sheet events → AllEndWell (spoken_by who events)
spoken_end_well sheet who [] e = tt
spoken_end_well sheet who (event ∷ events) e = (ends_well sheet event e.0, spoken_end_well sheet who events e.1)

abbrev WellIfAny : Option Task → Type 0
WellIfAny None = Unit {0}
WellIfAny (Some task) = EndsWell task.event

front_well : (o : Option Task) (tasks : List Task) → WellIfAny o → AllEndWell tasks → AllEndWell (option_map_or (λ task. task ∷ tasks) o tasks)
front_well None tasks f t = t
front_well (Some task) tasks f t = (f, t)

turn_says_well : (row : TurnRow) (ctx : Ctx) (says : Bool) → WellIfAny (turn_says row ctx says)
turn_says_well row ctx says =
    elim (nat_lt ctx.moves row.min_moves) as (λ few. WellIfAny (if few then None else (if says || is_full row.max_moves ctx then Some (by_itself (EndTurn None)) else None)))
    [ true ↦ tt | false ↦ elim (says || is_full row.max_moves ctx) as (λ is. WellIfAny (if is then Some (by_itself (EndTurn None)) else None)) [ true ↦ tt | false ↦ tt ] ]

phase_says_well : (phase : Option ℕ) (says : Bool) (o : Option Task) → WellIfAny o → WellIfAny (phase_says phase says o)
phase_says_well None says o f = f
phase_says_well (Some phase) true o f = tt
phase_says_well (Some phase) false o f = f

match_says_well : (outcome : Option Outcome) (o : Option Task) → ((named : Outcome) → outcome ≡ Some named → OutcomeFits named) → WellIfAny o → WellIfAny (option_map_or (λ outcome. Some (by_itself (EndGame outcome))) outcome o)
match_says_well None o e f = f
match_says_well (Some outcome) o e f = e outcome refl

module _ {G : Type 0} (rules : Rules G) (lawful : Lawful rules) (keeps : KeepsToSheet rules) (seats : ℕ) where
  -- the state is the game's own, there were at most so many turns, there are these seats, and the outcome fits if there is one
  abbrev pub Held : ℕ → Table G → Type 0
  Held most t = IsTrue (rules.own t.g) × (t.ctx.turn ≤ most) × (t.ctx.seats ≡ seats) × IfSome t.ctx.over OutcomeFits

  abbrev pub Keeps : ℕ → Step G → Type 0
  Keeps most (At t words tasks after) = Held most t × AllEndWell tasks
  Keeps most (Ends rule) = Unit {0}

  automatic_well : (after : Bool) (t : Table G) (tasks : List Task) → IsTrue (rules.own t.g) → AllEndWell tasks → AllEndWell (with_automatic rules after t tasks)
  automatic_well true t tasks own f = f
  automatic_well false t tasks own f =
      front_well (automatic rules t) tasks
      (match_says_well (rules.end_if t.g t.ctx) _ (λ named e. lawful.ends t.g t.ctx named own e)
      (phase_says_well t.ctx.phase (rules.phase_end_if t.g t.ctx) _ (turn_says_well (turn_row rules.sheet t.ctx) t.ctx (rules.turn_end_if t.g t.ctx)))) f

  keeps_more : (n m : ℕ) (s : Step G) → n ≤ m → Keeps n s → Keeps m s
  keeps_more n m (At t words tasks after) le h = ((h.0.0, omega (arith, h.0.1), h.0.2, h.0.3), h.1)
  keeps_more n m (Ends rule) le h = tt

  then_keeps : (n m : ℕ) (s : Step G) (f : Table G → List ℕ → List Task → Step G) → Keeps n s → ((t : Table G) (words : List ℕ) (tasks : List Task) → Held n t → AllEndWell tasks → Keeps m (f t words tasks)) → Keeps m (and_then s f)
  then_keeps n m (At t words tasks after) f h k = k t words tasks h.0 h.1
  then_keeps n m (Ends rule) f h k = tt

  carry_keeps : (n m : ℕ) (s : Step G) (f : Table G → List ℕ → List Task → Bool → Step G) → Keeps n s → ((t : Table G) (words : List ℕ) (tasks : List Task) (after : Bool) → Held n t → AllEndWell tasks → Keeps m (f t words tasks after)) → Keeps m (carry_on s f)
  carry_keeps n m (At t words tasks after) f h k = k t words tasks after h.0 h.1
  carry_keeps n m (Ends rule) f h k = tt

  hooked_keeps : (n : ℕ) (who : Option ℕ) (t : Table G) (tasks : List Task) (deed : Deed G Lack) → GivesOwn rules.own deed → QueuesInSheet rules.sheet deed → Held n t → AllEndWell tasks → Keeps n (hooked who t tasks deed)
  hooked_keeps n who t tasks (Done g words events) o q h e = ((o, h.1, h.2, h.3), more_end_well tasks (spoken_by who events) e (spoken_end_well rules.sheet who events q))
  hooked_keeps n who t tasks (GaveUp lack) o q h e = tt

  ended_keeps : (n : ℕ) (t : Table G) (deed : Deed G Lack) → GivesOwn rules.own deed → Held n t → Keeps n (ended_with t deed)
  ended_keeps n t (Done g words events) o h = ((o, h.1, h.2, h.3), tt)
  ended_keeps n t (GaveUp lack) o h = tt

  spec_keeps : (n : ℕ) (spec : Option ℕ) (t : Table G) → Held n t → Held n (spec_set rules.sheet spec t)
  spec_keeps n None t h = h
  spec_keeps n (Some spec) t h = h

  more : (n : ℕ) (t : Table G) → Held n t → Held (n + 1) t
  more n t h = (h.0, omega arith, h.2, h.3)

  turn_keeps : (n place : ℕ) (t : Table G) (words : List ℕ) (tasks : List Task) → Held n t → AllEndWell tasks → Keeps (n + 1) (turn rules place t words tasks)
  turn_keeps n place t words tasks h e =
      let spec = (turn_row rules.sheet t.ctx).active in
      let begun = spec_set rules.sheet spec (turned place t) in
      let held : Held (n + 1) begun = spec_keeps (n + 1) spec (turned place t) (h.0, omega arith, h.2, h.3) in
      hooked_keeps (n + 1) None begun tasks (rules.turn_begin begun.g begun.ctx words) (lawful.turn_begin begun.g begun.ctx words held.0) (keeps.turn_begin begun.g begun.ctx words) held e

  turn_ended_keeps : (n : ℕ) (t : Table G) (words : List ℕ) (tasks : List Task) → Held n t → AllEndWell tasks → Keeps n (turn_ended rules t words tasks)
  turn_ended_keeps n t words tasks h e = hooked_keeps n None t tasks (rules.turn_end t.g t.ctx words) (lawful.turn_end t.g t.ctx words h.0) (keeps.turn_end t.g t.ctx words) h e

  pass_on_keeps : (n place : ℕ) (t : Table G) (words : List ℕ) (tasks : List Task) → Held n t → AllEndWell tasks → Keeps (n + 1) (pass_on rules place t words tasks)
  pass_on_keeps n place t words tasks h e = then_keeps n (n + 1) (turn_ended rules t words tasks) (turn rules place) (turn_ended_keeps n t words tasks h e) (turn_keeps n place)

  order_begun_keeps : (n : ℕ) (at_start : Bool) (t : Table G) (words : List ℕ) (tasks : List Task) → Held n t → AllEndWell tasks → Keeps (n + 1) (order_begun rules at_start t words tasks)
  order_begun_keeps n at_start t words tasks h e =
      let row = turn_row rules.sheet t.ctx in
      let order = order_list row.order t.ctx.seats (rules.play_order t.g t.ctx) in
      turn_keeps n (first row.order at_start t.ctx.pos (length order)) (ordered order t) words tasks h e

  entered_keeps : (n : ℕ) (at_start : Bool) (phase : Option ℕ) (t : Table G) (words : List ℕ) (tasks : List Task) → Held n t → AllEndWell tasks → Keeps (n + 1) (phase_entered rules at_start phase t words tasks)
  entered_keeps n at_start None t words tasks h e = order_begun_keeps n at_start (in_phase None t) words tasks h e
  entered_keeps n at_start (Some phase) t words tasks h e =
      let named = in_phase (Some phase) t in
      then_keeps n (n + 1) (hooked None named tasks (rules.phase_begin named.g named.ctx phase words)) (order_begun rules at_start)
      (hooked_keeps n None named tasks (rules.phase_begin named.g named.ctx phase words) (lawful.phase_begin named.g named.ctx phase words h.0) (keeps.phase_begin named.g named.ctx phase words) h e) (order_begun_keeps n at_start)

  phase_ended_keeps : (n : ℕ) (phase : Option ℕ) (t : Table G) (words : List ℕ) (tasks : List Task) → Held n t → AllEndWell tasks → Keeps n (phase_ended rules phase t words tasks)
  phase_ended_keeps n None t words tasks h e = (h, e)
  phase_ended_keeps n (Some phase) t words tasks h e = hooked_keeps n None t tasks (rules.phase_end t.g t.ctx phase words) (lawful.phase_end t.g t.ctx phase words h.0) (keeps.phase_end t.g t.ctx phase words) h e

  left_keeps : (n : ℕ) (next : Option ℕ) (t : Table G) (words : List ℕ) (tasks : List Task) → Held n t → AllEndWell tasks → Keeps (n + 1) (phase_left rules next t words tasks)
  left_keeps n next t words tasks h e =
      then_keeps n (n + 1) (phase_ended rules t.ctx.phase t words tasks) (phase_entered rules false next) (phase_ended_keeps n t.ctx.phase t words tasks h e) (entered_keeps n false next)

  enter_keeps : (n : ℕ) (next : Option ℕ) (t : Table G) (words : List ℕ) (tasks : List Task) → Held n t → AllEndWell tasks → Keeps (n + 1) (enter rules next t words tasks)
  enter_keeps n next t words tasks h e = then_keeps n (n + 1) (turn_ended rules t words tasks) (phase_left rules next) (turn_ended_keeps n t words tasks h e) (left_keeps n next)

  pass_to_keeps : (n : ℕ) (place : Option ℕ) (t : Table G) (words : List ℕ) (tasks : List Task) → Held n t → AllEndWell tasks → Keeps (n + 1) (pass_to rules place t words tasks)
  pass_to_keeps n None t words tasks h e = (more n t h, e)
  pass_to_keeps n (Some place) t words tasks h e = pass_on_keeps n place t words tasks h e

  pass_or_end_keeps : (n : ℕ) (place : Option ℕ) (t : Table G) (words : List ℕ) (tasks : List Task) → Held n t → AllEndWell tasks → Keeps (n + 1) (pass_or_end rules place t words tasks)
  pass_or_end_keeps n None t words tasks h e = (more n t h, (tt, e))
  pass_or_end_keeps n (Some place) t words tasks h e = pass_on_keeps n place t words tasks h e

  end_turn_to_keeps : (n : ℕ) (to : Option ℕ) (t : Table G) (words : List ℕ) (tasks : List Task) → Held n t → AllEndWell tasks → Keeps (n + 1) (end_turn_to rules to t words tasks)
  end_turn_to_keeps n (Some seat) t words tasks h e = pass_to_keeps n (position (nat_eq seat) t.ctx.order) t words tasks h e
  end_turn_to_keeps n None t words tasks h e = pass_or_end_keeps n (next (turn_row rules.sheet t.ctx).order t.ctx.pos (length t.ctx.order)) t words tasks h e

  either_keeps : (n : ℕ) (b : Bool) (x y : Step G) → Keeps n x → Keeps n y → Keeps n (if b then x else y)
  either_keeps n true x y h k = h
  either_keeps n false x y h k = k

  end_turn_keeps : (n : ℕ) (to : Option ℕ) (t : Table G) (words : List ℕ) (tasks : List Task) → Held n t → AllEndWell tasks → Keeps (n + 1) (end_turn rules to t words tasks)
  end_turn_keeps n to t words tasks h e =
      either_keeps (n + 1) (nat_lt t.ctx.moves (turn_row rules.sheet t.ctx).min_moves) (At t words tasks false) (end_turn_to rules to t words tasks) (more n t h, e) (end_turn_to_keeps n to t words tasks h e)

  end_phase_keeps : (n : ℕ) (phase : Option ℕ) (t : Table G) (words : List ℕ) (tasks : List Task) → Held n t → AllEndWell tasks → Keeps (n + 1) (end_phase rules phase t words tasks)
  end_phase_keeps n None t words tasks h e = (more n t h, e)
  end_phase_keeps n (Some phase) t words tasks h e = enter_keeps n (phase_after rules.sheet phase) t words tasks h e

  run_keeps : (n : ℕ) (event : Event) (who : Option ℕ) (t : Table G) (words : List ℕ) (tasks : List Task) → EndsWell event → Held n t → AllEndWell tasks → Keeps (n + 1) (run rules event who t words tasks)
  run_keeps n (EndTurn to) who t words tasks w h e = end_turn_keeps n to t words tasks h e
  run_keeps n EndPhase who t words tasks w h e = end_phase_keeps n t.ctx.phase t words tasks h e
  run_keeps n (SetPhase to) who t words tasks w h e = enter_keeps n (Some to) t words tasks h e
  run_keeps n (SetActive spec) who t words tasks w h e = (more n t h, e)
  run_keeps n (SetStage to) who t words tasks w h e = (more n t h, e)
  run_keeps n EndStage who t words tasks w h e = (more n t h, e)
  run_keeps n (EndGame outcome) who t words tasks w h e =
      let done = over outcome t in
      keeps_more n (n + 1) (end_game rules done words) (omega arith) (ended_keeps n done (rules.game_end done.g done.ctx words) (lawful.game_end done.g done.ctx words h.0) (h.0, h.1, h.2, w))

  next_keeps : (n m : ℕ) (o : Option Outcome) (t : Table G) (words : List ℕ) (tasks : List Task) (go : Task → List Task → Step G) → n ≤ m → Held n t → AllEndWell tasks
      → ((task : Task) (rest : List Task) → EndsWell task.event → AllEndWell rest → Keeps m (go task rest)) → Keeps m (next_by o t words tasks go)
  next_keeps n m (Some outcome) t words tasks go le h e k = ((h.0, omega arith, h.2, h.3), tt)
  next_keeps n m None t words [] go le h e k = ((h.0, omega arith, h.2, h.3), tt)
  next_keeps n m None t words (task ∷ tasks) go le h e k = k task tasks e.0 e.1

  -- with so many tasks left, settling takes at most so many turns
  pub settle_keeps : (k n : ℕ) (t : Table G) (words : List ℕ) (tasks : List Task) (after : Bool) → Held n t → AllEndWell tasks → Keeps (n + k) (settle rules k t words tasks after)
  unfolding settle
  settle_keeps zero n t words tasks after h e = next_keeps n (n + zero) t.ctx.over t words (with_automatic rules after t tasks) _ (omega arith) h (automatic_well after t tasks h.0 e) (λ task rest w r. tt)
  settle_keeps (suc k) n t words tasks after h e =
      next_keeps n (n + suc k) t.ctx.over t words (with_automatic rules after t tasks) (λ task rest. carry_on (run rules task.event task.speaker t words rest) (settle rules k)) (omega arith) h (automatic_well after t tasks h.0 e)
      (λ task rest w r. carry_keeps (n + 1) (n + suc k) (run rules task.event task.speaker t words rest) (settle rules k) (run_keeps n task.event task.speaker t words rest w h r)
      (λ u words tasks after held f. keeps_more (n + 1 + k) (n + suc k) (settle rules k u words tasks after) (omega arith) (settle_keeps k (n + 1) u words tasks after held f)))

  set_up_keeps : (deed : Deed G Lack) → GivesOwn rules.own deed → Keeps 65 (set_up rules seats deed)
  set_up_keeps (Done g words events) o =
      carry_keeps 1 65 (phase_entered rules true (start_phase rules.sheet) (fresh seats g) words []) (settle rules 64) (entered_keeps 0 true (start_phase rules.sheet) (fresh seats g) words [] (o, omega arith, refl, tt) tt)
      (λ t words tasks after h e. settle_keeps 64 1 t words tasks after h e)
  set_up_keeps (GaveUp lack) o = tt

  -- a match begins with an own state and at most 65 turns
  pub begin_keeps : (words : List ℕ) → rules.sheet.min_seats ≤ seats → seats ≤ rules.sheet.max_seats → Keeps 65 (begin rules seats words)
  unfolding begin
  begin_keeps words least most = set_up_keeps (rules.setup seats words) (lawful.setup seats words least most)

  counted_keeps : (n seat : ℕ) (is : Bool) (t : Table G) → Held n t → Held n (with_count rules.sheet is seat t)
  counted_keeps n seat true t h = h
  counted_keeps n seat false t h = h

  pub moved_keeps : (n seat : ℕ) (is : Bool) (t : Table G) (words : List ℕ) (events : List Event) → Held n t → AllInSheet rules.sheet events → Keeps (n + 64) (moved rules seat is t words events)
  unfolding moved
  moved_keeps n seat is t words events h q =
      let counted = with_count rules.sheet is seat t in
      let held : Held n counted = counted_keeps n seat is t h in
      carry_keeps n (n + 64) (after_move rules seat counted words events) (settle rules 64)
      (hooked_keeps n (Some seat) counted (spoken_by (Some seat) events) (rules.on_move counted.g counted.ctx seat words) (lawful.on_move counted.g counted.ctx seat words held.0) (keeps.on_move counted.g counted.ctx seat words)
      held (spoken_end_well rules.sheet (Some seat) events q))
      (λ t words tasks after h e. settle_keeps 64 n t words tasks after h e)

  pub run_event_keeps : (n seat : ℕ) (event : Event) (t : Table G) (words : List ℕ) → Held n t → EventInSheet rules.sheet event → Keeps (n + 64) (run_event rules seat event t words)
  unfolding run_event
  run_event_keeps n seat event t words h q =
      either_keeps (n + 64) (is_early rules.sheet seat event t) (Ends TooEarly) (settle rules 64 t words (spoken (Some seat) event ∷ []) false) tt (settle_keeps 64 n t words (spoken (Some seat) event ∷ []) false h (ends_well rules.sheet event q, tt))

  played_keeps : (n seat : ℕ) (is : Bool) (t : Table G) (deed : Deed G Barred) → GivesOwn rules.own deed → QueuesInSheet rules.sheet deed → Held n t → Keeps (n + 64) (action.played rules t seat is deed)
  played_keeps n seat is t (Done g left events) o q h = moved_keeps n seat is (record t { g = g }) left events (o, h.1, h.2, h.3) q
  played_keeps n seat is t (GaveUp Invalid) o q h = tt
  played_keeps n seat is t (GaveUp (Lacks lack)) o q h = tt

  acted_keeps : (n seat : ℕ) (act : Act) (t : Table G) (words : List ℕ) → Held n t → ActInSheet rules.sheet act → Keeps (n + 64) (action.acted rules t seat act words)
  acted_keeps n seat (Move id args) t words h known =
      played_keeps n seat (action.counts rules.sheet id) t (rules.play t.g t.ctx seat id args words) (lawful.play t.g t.ctx seat id args words h.0) (keeps.play t.g t.ctx seat id args words known) h
  acted_keeps n seat (Asks event) t words h known =
      either_keeps (n + 64) (action.is_invalid seat event t) (Ends InvalidMove) (run_event rules seat event t words) tt (run_event_keeps n seat event t words h known)
  acted_keeps n seat Undo t words h known = tt
  acted_keeps n seat Redo t words h known = tt

  come_keeps : (n place : ℕ) (seed : List ℕ) (s : Step G) (r : Reached G) → Keeps n s → action.come_to seed place s ≡ Ok r → Held n (table_of r)
  come_keeps n place seed (At t left tasks after) r h e =
      let same : reached seed (action.place_after place left) t ≡ r = cc in
      subst (λ x. Held n (table_of x)) same h.0
  come_keeps n place seed (Ends rule) r h e = absurd (cc)

  -- an action keeps the state own, and takes at most 64 turns
  pub once_keeps : (n seat : ℕ) (act : Act) (r next : Reached G) → Held n (table_of r) → ActInSheet rules.sheet act → action.once rules r seat act ≡ Ok next → Held (n + 64) (table_of next)
  unfolding action.once
  once_keeps n seat act r next h known e =
      come_keeps (n + 64) r.place r.seed (action.acted rules (table_of r) seat act (action.words_from r.seed r.place)) next (acted_keeps n seat act (table_of r) (action.words_from r.seed r.place) h known) e

  pub begins_own : (seed : List ℕ) (first : Reached G) → rules.sheet.min_seats ≤ seats → seats ≤ rules.sheet.max_seats → action.begin rules seats seed ≡ Ok first → Held 65 (table_of first)
  unfolding action.begin
  begins_own seed first least most e = come_keeps 65 0 seed (begin rules seats (action.words_from seed 0)) first (begin_keeps (action.words_from seed 0) least most) e
