-- What holds of the state, the seats and the phase of a table is kept by the flow where the game's hooks keep it and no phase is set by an event;
-- and where the flow ends and the match goes on, nothing comes by itself any more.
use Rattle.std.specs.Prelude.{◌≡◌, ℕ, zero, suc, Bool, true, false, if◌then◌else◌, nat_eq, nat_lt, position, length, List, [], ◌∷◌, ◌++◌, Option, Some, None, Ok, refl}
use Rattle.std.proofs.Common.{subst}
use Rattle.game_sheet.specs.declared.act.Act.{Act}
use Rattle.game_sheet.specs.declared.act.Act.TheVariants.{Move, Event as Asks, Undo, Redo}
use Rattle.game_sheet.specs.declared.act.Event.{Event}
use Rattle.game_sheet.specs.declared.act.Event.TheVariants.{EndTurn, EndPhase, SetPhase, EndStage, SetStage, SetActive, EndGame}
use Rattle.game_sheet.specs.declared.act.Outcome.{Outcome}
use Rattle.game_sheet.specs.declared.ctx.Ctx.{Ctx}
use Rattle.game_sheet.specs.declared.refusal.GameRule.TheVariants.{InvalidMove, TooEarly}
use Rattle.game_trait.specs.Deed.{Barred, Deed, Done, GaveUp, Invalid, Lack, Lacks}
use Rattle.game_trait.specs.Rules.{Rules}
use Rattle.phase_flow.specs.Action as action
use Rattle.phase_flow.specs.Automatic.{automatic, with_automatic}
use Rattle.phase_flow.specs.Flow.{after_move, begin, fresh, is_early, moved, run_event, set_up, with_count}
use Rattle.phase_flow.specs.Reached.{Reached, reached, table_of}
use Rattle.phase_flow.specs.Rows.{order_list, phase_after, start_phase, turn_row}
use Rattle.phase_flow.specs.Settle.{end_phase, end_turn, end_turn_to, next_by, over, pass_or_end, pass_to, run, settle}
use Rattle.phase_flow.specs.Step.{At, Ends, Step, and_then, carry_on, ended_with, hooked, spoken, spoken_by}
use Rattle.phase_flow.specs.Turns.{enter, in_phase, order_begun, ordered, pass_on, phase_ended, phase_entered, phase_left, spec_set, turn, turn_ended, turned}
use Rattle.phase_flow.specs.declared.table.Table.{Table}
use Rattle.phase_flow.specs.declared.task.Task.{Task}
use Rattle.turn_order.specs.Position.{first, next}
use Rattle.offered_moves.proofs.Ending.{IsCalm, IsQuiet, automatic_by}
use Rattle.std.specs.Option.{option_map_or}

-- an event that sets no phase
abbrev pub IsPlain : Event → Type 0
IsPlain (EndTurn to) = Unit {0}
IsPlain EndPhase = Unit {0}
IsPlain (SetPhase to) = ⊥
IsPlain EndStage = Unit {0}
IsPlain (SetStage to) = Unit {0}
IsPlain (SetActive spec) = Unit {0}
IsPlain (EndGame outcome) = Unit {0}

abbrev pub ArePlain : List Event → Type 0
ArePlain [] = Unit {0}
ArePlain (event ∷ events) = IsPlain event × ArePlain events

abbrev AllPlain : List Task → Type 0
AllPlain [] = Unit {0}
AllPlain (task ∷ tasks) = IsPlain task.event × AllPlain tasks

more_plain : (tasks more : List Task) → AllPlain tasks → AllPlain more → AllPlain (tasks ++ more)
more_plain [] more p q = q
more_plain (task ∷ tasks) more p q = (p.0, more_plain tasks more p.1 q)

spoken_plain : (who : Option ℕ) (events : List Event) → ArePlain events → AllPlain (spoken_by who events)
spoken_plain who [] p = tt
spoken_plain who (event ∷ events) p = (p.0, spoken_plain who events p.1)

abbrev PlainIfAny : Option Task → Type 0
PlainIfAny None = Unit {0}
PlainIfAny (Some task) = IsPlain task.event

front_plain : (o : Option Task) (tasks : List Task) → PlainIfAny o → AllPlain tasks → AllPlain (option_map_or (λ task. task ∷ tasks) o tasks)
front_plain None tasks p q = q
front_plain (Some task) tasks p q = (p, q)

-- a turn's end that put a phase's end in front has left a task
abbrev IsLeft : Bool → List Task → Type 0
IsLeft true [] = ⊥
IsLeft true (task ∷ tasks) = Unit {0}
IsLeft false tasks = Unit {0}

none_in_front : (o : Option Task) (tasks : List Task) → option_map_or (λ task. task ∷ tasks) o tasks ≡ [] → o ≡ None
none_in_front None tasks is = refl
none_in_front (Some task) tasks is = cc

module _ {G : Type 0} (rules : Rules G) (calm : IsCalm rules) (P : G → ℕ → Option ℕ → Type 0) where
  abbrev pub Gives : {E : Type 0} → Ctx → Deed G E → Type 0
  Gives ctx (Done g words queued) = P g ctx.seats ctx.phase
  Gives ctx (GaveUp why) = Unit {0}

  pub record AreKept : Type 0 where
    pub on_move : (g : G) (ctx : Ctx) (seat : ℕ) (words : List ℕ) → P g ctx.seats ctx.phase → Gives ctx (rules.on_move g ctx seat words)
    pub turn_begin : (g : G) (ctx : Ctx) (words : List ℕ) → P g ctx.seats ctx.phase → Gives ctx (rules.turn_begin g ctx words)
    pub turn_end : (g : G) (ctx : Ctx) (words : List ℕ) → P g ctx.seats ctx.phase → Gives ctx (rules.turn_end g ctx words)
    pub phase_begin : (g : G) (ctx : Ctx) (phase : ℕ) (words : List ℕ) → P g ctx.seats ctx.phase → Gives ctx (rules.phase_begin g ctx phase words)
    pub phase_end : (g : G) (ctx : Ctx) (phase : ℕ) (words : List ℕ) → P g ctx.seats ctx.phase → Gives ctx (rules.phase_end g ctx phase words)
    pub game_end : (g : G) (ctx : Ctx) (words : List ℕ) → P g ctx.seats ctx.phase → Gives ctx (rules.game_end g ctx words)
    pub next : (g : G) (seats phase : ℕ) → P g seats (Some phase) → P g seats (phase_after rules.sheet phase)

  abbrev pub Has : Table G → Type 0
  Has t = P t.g t.ctx.seats t.ctx.phase

  abbrev pub Holds : Step G → Type 0
  Holds (At t words tasks after) = Has t × AllPlain tasks × IsLeft after tasks
  Holds (Ends rule) = Unit {0}

  -- where the match goes on nothing comes by itself
  abbrev pub IsAtRest : Table G → Type 0
  IsAtRest t = t.ctx.over ≡ None → automatic rules t ≡ None

  abbrev pub Rests : Step G → Type 0
  Rests (At t words tasks after) = Has t × IsAtRest t
  Rests (Ends rule) = Unit {0}

  then_holds : (s : Step G) (f : Table G → List ℕ → List Task → Step G) → Holds s → ((t : Table G) (words : List ℕ) (tasks : List Task) → Has t → AllPlain tasks → Holds (f t words tasks)) → Holds (and_then s f)
  then_holds (At t words tasks after) f h k = k t words tasks h.0 h.1
  then_holds (Ends rule) f h k = tt

  pub carry_rests : (s : Step G) (f : Table G → List ℕ → List Task → Bool → Step G) → Holds s → ((t : Table G) (words : List ℕ) (tasks : List Task) (after : Bool) → Has t → AllPlain tasks → IsLeft after tasks → Rests (f t words tasks after)) → Rests (carry_on s f)
  carry_rests (At t words tasks after) f h k = k t words tasks after h.0 h.1 h.2
  carry_rests (Ends rule) f h k = tt

  hooked_holds : (who : Option ℕ) (t : Table G) (tasks : List Task) (deed : Deed G Lack) → IsQuiet deed → Gives t.ctx deed → AllPlain tasks → Holds (hooked who t tasks deed)
  hooked_holds who t tasks (Done g words []) quiet h p = (h, more_plain tasks [] p tt, tt)
  hooked_holds who t tasks (Done g words (event ∷ queued)) quiet h p = absurd quiet
  hooked_holds who t tasks (GaveUp lack) quiet h p = tt

  ended_holds : (t : Table G) (deed : Deed G Lack) → Gives t.ctx deed → Holds (ended_with t deed)
  ended_holds t (Done g words queued) h = (h, tt, tt)
  ended_holds t (GaveUp lack) h = tt

  module _ (kept : AreKept) where
    spec_holds : (spec : Option ℕ) (t : Table G) → Has t → Has (spec_set rules.sheet spec t)
    spec_holds None t h = h
    spec_holds (Some spec) t h = h

    turn_holds : (place : ℕ) (t : Table G) (words : List ℕ) (tasks : List Task) → Has t → AllPlain tasks → Holds (turn rules place t words tasks)
    turn_holds place t words tasks h p =
        let spec = (turn_row rules.sheet t.ctx).active in
        let begun = spec_set rules.sheet spec (turned place t) in
        hooked_holds None begun tasks (rules.turn_begin begun.g begun.ctx words) (calm.turn_begin begun.g begun.ctx words) (kept.turn_begin begun.g begun.ctx words (spec_holds spec (turned place t) h)) p

    turn_ended_holds : (t : Table G) (words : List ℕ) (tasks : List Task) → Has t → AllPlain tasks → Holds (turn_ended rules t words tasks)
    turn_ended_holds t words tasks h p = hooked_holds None t tasks (rules.turn_end t.g t.ctx words) (calm.turn_end t.g t.ctx words) (kept.turn_end t.g t.ctx words h) p

    pass_on_holds : (place : ℕ) (t : Table G) (words : List ℕ) (tasks : List Task) → Has t → AllPlain tasks → Holds (pass_on rules place t words tasks)
    pass_on_holds place t words tasks h p = then_holds (turn_ended rules t words tasks) (turn rules place) (turn_ended_holds t words tasks h p) (turn_holds place)

    order_holds : (at_start : Bool) (t : Table G) (words : List ℕ) (tasks : List Task) → Has t → AllPlain tasks → Holds (order_begun rules at_start t words tasks)
    order_holds at_start t words tasks h p =
        let row = turn_row rules.sheet t.ctx in
        let order = order_list row.order t.ctx.seats (rules.play_order t.g t.ctx) in
        turn_holds (first row.order at_start t.ctx.pos (length order)) (ordered order t) words tasks h p

    pub entered_holds : (at_start : Bool) (phase : Option ℕ) (t : Table G) (words : List ℕ) (tasks : List Task) → P t.g t.ctx.seats phase → AllPlain tasks → Holds (phase_entered rules at_start phase t words tasks)
    entered_holds at_start None t words tasks h p = order_holds at_start (in_phase None t) words tasks h p
    entered_holds at_start (Some phase) t words tasks h p =
        let named = in_phase (Some phase) t in
        then_holds (hooked None named tasks (rules.phase_begin named.g named.ctx phase words)) (order_begun rules at_start)
        (hooked_holds None named tasks (rules.phase_begin named.g named.ctx phase words) (calm.phase_begin named.g named.ctx phase words) (kept.phase_begin named.g named.ctx phase words h) p) (order_holds at_start)

    hooked_to : (R : Step G → Type 0) (who : Option ℕ) (t : Table G) (tasks : List Task) (deed : Deed G Lack) → IsQuiet deed → Gives t.ctx deed → ((g : G) (words : List ℕ) → P g t.ctx.seats t.ctx.phase → R (At (record t { g = g }) words (tasks ++ []) false)) → R (hooked who t tasks deed)
    hooked_to R who t tasks (Done g words []) quiet h k = k g words h
    hooked_to R who t tasks (Done g words (event ∷ queued)) quiet h k = absurd quiet
    hooked_to R who t tasks (GaveUp lack) quiet h k = absurd quiet

    ended_to : (phase next : Option ℕ) (t : Table G) (words : List ℕ) (tasks : List Task) → ((g : G) → P g t.ctx.seats t.ctx.phase → P g t.ctx.seats next) → Has t → AllPlain tasks → Holds (and_then (phase_ended rules phase t words tasks) (phase_entered rules false next))
    ended_to None next t words tasks moves h p = entered_holds false next t words tasks (moves t.g h) p
    ended_to (Some phase) next t words tasks moves h p =
        hooked_to (λ s. Holds (and_then s (phase_entered rules false next))) None t tasks (rules.phase_end t.g t.ctx phase words) (calm.phase_end t.g t.ctx phase words) (kept.phase_end t.g t.ctx phase words h)
        (λ g left has. entered_holds false next (record t { g = g }) left (tasks ++ []) (moves g has) (more_plain tasks [] p tt))

    enter_holds : (next : Option ℕ) (t : Table G) (words : List ℕ) (tasks : List Task) → ((g : G) → P g t.ctx.seats t.ctx.phase → P g t.ctx.seats next) → Has t → AllPlain tasks → Holds (enter rules next t words tasks)
    enter_holds next t words tasks moves h p =
        hooked_to (λ s. Holds (and_then s (phase_left rules next))) None t tasks (rules.turn_end t.g t.ctx words) (calm.turn_end t.g t.ctx words) (kept.turn_end t.g t.ctx words h)
        (λ g left has. ended_to t.ctx.phase next (record t { g = g }) left (tasks ++ []) moves has (more_plain tasks [] p tt))

    pass_to_holds : (place : Option ℕ) (t : Table G) (words : List ℕ) (tasks : List Task) → Has t → AllPlain tasks → Holds (pass_to rules place t words tasks)
    pass_to_holds None t words tasks h p = (h, p, tt)
    pass_to_holds (Some place) t words tasks h p = pass_on_holds place t words tasks h p

    pass_or_end_holds : (place : Option ℕ) (t : Table G) (words : List ℕ) (tasks : List Task) → Has t → AllPlain tasks → Holds (pass_or_end rules place t words tasks)
    pass_or_end_holds None t words tasks h p = (h, (tt, p), tt)
    pass_or_end_holds (Some place) t words tasks h p = pass_on_holds place t words tasks h p

    end_turn_to_holds : (to : Option ℕ) (t : Table G) (words : List ℕ) (tasks : List Task) → Has t → AllPlain tasks → Holds (end_turn_to rules to t words tasks)
    end_turn_to_holds (Some seat) t words tasks h p = pass_to_holds (position (nat_eq seat) t.ctx.order) t words tasks h p
    end_turn_to_holds None t words tasks h p = pass_or_end_holds (next (turn_row rules.sheet t.ctx).order t.ctx.pos (length t.ctx.order)) t words tasks h p

    either_holds : (b : Bool) (x y : Step G) → Holds x → Holds y → Holds (if b then x else y)
    either_holds true x y h k = h
    either_holds false x y h k = k

    end_turn_holds : (to : Option ℕ) (t : Table G) (words : List ℕ) (tasks : List Task) → Has t → AllPlain tasks → Holds (end_turn rules to t words tasks)
    end_turn_holds to t words tasks h p =
        either_holds (nat_lt t.ctx.moves (turn_row rules.sheet t.ctx).min_moves) (At t words tasks false) (end_turn_to rules to t words tasks) (h, p, tt) (end_turn_to_holds to t words tasks h p)

    end_phase_holds : (phase : Option ℕ) (t : Table G) (words : List ℕ) (tasks : List Task) → t.ctx.phase ≡ phase → Has t → AllPlain tasks → Holds (end_phase rules phase t words tasks)
    end_phase_holds None t words tasks is h p = (h, p, tt)
    end_phase_holds (Some phase) t words tasks is h p = enter_holds (phase_after rules.sheet phase) t words tasks (λ g has. kept.next g t.ctx.seats phase (subst (λ (o : Option ℕ). P g t.ctx.seats o) is has)) h p

    run_holds : (event : Event) (who : Option ℕ) (t : Table G) (words : List ℕ) (tasks : List Task) → IsPlain event → Has t → AllPlain tasks → Holds (run rules event who t words tasks)
    run_holds (EndTurn to) who t words tasks e h p = end_turn_holds to t words tasks h p
    run_holds EndPhase who t words tasks e h p = end_phase_holds t.ctx.phase t words tasks refl h p
    run_holds (SetPhase to) who t words tasks e h p = absurd e
    run_holds (SetActive spec) who t words tasks e h p = (h, p, tt)
    run_holds (SetStage to) who t words tasks e h p = (h, p, tt)
    run_holds EndStage who t words tasks e h p = (h, p, tt)
    run_holds (EndGame outcome) who t words tasks e h p = ended_holds (over outcome t) (rules.game_end t.g (over outcome t).ctx words) (kept.game_end t.g (over outcome t).ctx words h)

    at_rest : (after : Bool) (t : Table G) (tasks : List Task) → IsLeft after tasks → with_automatic rules after t tasks ≡ [] → automatic rules t ≡ None
    at_rest true t [] left is = absurd left
    at_rest true t (task ∷ tasks) left is = cc
    at_rest false t tasks left is = none_in_front (automatic rules t) tasks is

    with_plain : (after : Bool) (t : Table G) (tasks : List Task) → AllPlain tasks → AllPlain (with_automatic rules after t tasks)
    with_plain true t tasks p = p
    with_plain false t tasks p = front_plain (automatic rules t) tasks (automatic_by rules calm PlainIfAny t (λ outcome. tt) (λ many full. tt) tt) p

    next_rests : (o : Option Outcome) (t : Table G) (words : List ℕ) (tasks : List Task) (go : Task → List Task → Step G) → t.ctx.over ≡ o → Has t → AllPlain tasks → (tasks ≡ [] → automatic rules t ≡ None)
        → ((task : Task) (rest : List Task) → IsPlain task.event → AllPlain rest → Rests (go task rest)) → Rests (next_by o t words tasks go)
    next_rests (Some outcome) t words tasks go is h p r k = (h, λ on. cc)
    next_rests None t words [] go is h p r k = (h, λ on. r refl)
    next_rests None t words (task ∷ tasks) go is h p r k = k task tasks p.0 p.1

    pub settle_rests : (n : ℕ) (t : Table G) (words : List ℕ) (tasks : List Task) (after : Bool) → Has t → AllPlain tasks → IsLeft after tasks → Rests (settle rules n t words tasks after)
    unfolding settle
    settle_rests zero t words tasks after h p l = next_rests t.ctx.over t words (with_automatic rules after t tasks) _ refl h (with_plain after t tasks p) (at_rest after t tasks l) (λ task rest e r. tt)
    settle_rests (suc n) t words tasks after h p l =
        next_rests t.ctx.over t words (with_automatic rules after t tasks) (λ task rest. carry_on (run rules task.event task.speaker t words rest) (settle rules n)) refl h (with_plain after t tasks p) (at_rest after t tasks l)
        (λ task rest e r. carry_rests (run rules task.event task.speaker t words rest) (settle rules n) (run_holds task.event task.speaker t words rest e h r) (settle_rests n))

    -- the beginning of a match, in the phase of the sheet
    abbrev pub Begins : {E : Type 0} → ℕ → Deed G E → Type 0
    Begins seats (Done g words queued) = P g seats (start_phase rules.sheet)
    Begins seats (GaveUp why) = Unit {0}

    set_up_rests : (seats : ℕ) (deed : Deed G Lack) → Begins seats deed → Rests (set_up rules seats deed)
    set_up_rests seats (Done g words queued) h = carry_rests (phase_entered rules true (start_phase rules.sheet) (fresh seats g) words []) (settle rules 64) (entered_holds true (start_phase rules.sheet) (fresh seats g) words [] h tt) (settle_rests 64)
    set_up_rests seats (GaveUp why) h = tt

    begin_rests : (seats : ℕ) (words : List ℕ) → Begins seats (rules.setup seats words) → Rests (begin rules seats words)
    unfolding begin
    begin_rests seats words h = set_up_rests seats (rules.setup seats words) h

    counted_has : (seat : ℕ) (is : Bool) (t : Table G) → Has t → Has (with_count rules.sheet is seat t)
    counted_has seat true t h = h
    counted_has seat false t h = h

    moved_rests : (seat : ℕ) (is : Bool) (t : Table G) (words : List ℕ) (events : List Event) → Has t → ArePlain events → Rests (moved rules seat is t words events)
    unfolding moved
    moved_rests seat is t words events h p =
        let counted = with_count rules.sheet is seat t in
        let has : Has counted = counted_has seat is t h in
        carry_rests (after_move rules seat counted words events) (settle rules 64)
        (hooked_holds (Some seat) counted (spoken_by (Some seat) events) (rules.on_move counted.g counted.ctx seat words) (calm.on_move counted.g counted.ctx seat words) (kept.on_move counted.g counted.ctx seat words has) (spoken_plain (Some seat) events p))
        (settle_rests 64)

    either_rests : (b : Bool) (x y : Step G) → Rests x → Rests y → Rests (if b then x else y)
    either_rests true x y h k = h
    either_rests false x y h k = k

    run_event_rests : (seat : ℕ) (event : Event) (t : Table G) (words : List ℕ) → Has t → IsPlain event → Rests (run_event rules seat event t words)
    unfolding run_event
    run_event_rests seat event t words h p = either_rests (is_early rules.sheet seat event t) (Ends TooEarly) (settle rules 64 t words (spoken (Some seat) event ∷ []) false) tt (settle_rests 64 t words (spoken (Some seat) event ∷ []) false h (p, tt) tt)

    pub asked_rests : (seat : ℕ) (event : Event) (t : Table G) (words : List ℕ) → Has t → IsPlain event → Rests (action.asked rules t seat event words)
    asked_rests seat event t words h p = either_rests (action.is_invalid seat event t) (Ends InvalidMove) (run_event rules seat event t words) tt (run_event_rests seat event t words h p)

    -- a move that is played holds it, and queues plain events
    abbrev pub Plays : {E : Type 0} → Ctx → Deed G E → Type 0
    Plays ctx (Done g words queued) = P g ctx.seats ctx.phase × ArePlain queued
    Plays ctx (GaveUp why) = Unit {0}

    pub played_rests : (seat : ℕ) (is : Bool) (t : Table G) (deed : Deed G Barred) → Plays t.ctx deed → Rests (action.played rules t seat is deed)
    played_rests seat is t (Done g left events) h = moved_rests seat is (record t { g = g }) left events h.0 h.1
    played_rests seat is t (GaveUp Invalid) h = tt
    played_rests seat is t (GaveUp (Lacks lack)) h = tt

    pub come_rests : (place : ℕ) (seed : List ℕ) (s : Step G) (r : Reached G) → Rests s → action.come_to seed place s ≡ Ok r → Has (table_of r) × IsAtRest (table_of r)
    come_rests place seed (At t left tasks after) r h e =
        let same : reached seed (action.place_after place left) t ≡ r = cc in
        subst (λ x. Has (table_of x) × IsAtRest (table_of x)) same h
    come_rests place seed (Ends rule) r h e = absurd (cc)

    pub begins_at_rest : (seats : ℕ) (seed : List ℕ) (first : Reached G) → ((words : List ℕ) → Begins seats (rules.setup seats words)) → action.begin rules seats seed ≡ Ok first → Has (table_of first) × IsAtRest (table_of first)
    unfolding action.begin
    begins_at_rest seats seed first h e = come_rests 0 seed (begin rules seats (action.words_from seed 0)) first (begin_rests seats (action.words_from seed 0) (h (action.words_from seed 0))) e

    -- what an action needs on a table for it to be kept
    abbrev pub Suits : Table G → ℕ → List ℕ → Act → Type 0
    Suits t seat words (Move id args) = Plays t.ctx (rules.play t.g t.ctx seat id args words)
    Suits t seat words (Asks event) = Has t × IsPlain event
    Suits t seat words Undo = Unit {0}
    Suits t seat words Redo = Unit {0}

    pub acted_rests : (seat : ℕ) (act : Act) (t : Table G) (words : List ℕ) → Suits t seat words act → Rests (action.acted rules t seat act words)
    acted_rests seat (Move id args) t words h = played_rests seat (action.counts rules.sheet id) t (rules.play t.g t.ctx seat id args words) h
    acted_rests seat (Asks event) t words h = asked_rests seat event t words h.0 h.1
    acted_rests seat Undo t words h = tt
    acted_rests seat Redo t words h = tt

    pub once_rests : (seat : ℕ) (act : Act) (now after : Reached G) → Suits (table_of now) seat (action.words_from now.seed now.place) act → action.once rules now seat act ≡ Ok after → Has (table_of after) × IsAtRest (table_of after)
    unfolding action.once
    once_rests seat act now after h e = come_rests now.place now.seed (action.acted rules (table_of now) seat act (action.words_from now.seed now.place)) after (acted_rests seat act (table_of now) (action.words_from now.seed now.place) h) e
