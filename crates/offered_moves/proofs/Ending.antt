-- In a game whose hooks queue nothing and in which turns end by themselves only after moves, what follows from a move ends within its tasks.
use Rattle.std.specs.Prelude.{◌≡◌, ◌≤◌, ℕ, zero, suc, Bool, true, false, ◌||◌, if◌then◌else◌, nat_le, nat_lt, is_none, is_some, length, List, [], ◌∷◌, ◌++◌, Option, Some, None, refl}
use Rattle.std.proofs.Common.{◌∙◌, ap, sym, arith}
use Rattle.std.proofs.lemmas.Bool.{false≢true, leb-true}
use Rattle.game_sheet.specs.declared.act.Event.TheVariants.{EndTurn, EndPhase, EndGame}
use Rattle.game_sheet.specs.declared.act.Outcome.{Outcome}
use Rattle.game_sheet.specs.declared.ctx.Ctx.{Ctx}
use Rattle.game_sheet.specs.declared.sheet.TurnRow.{TurnRow}
use Rattle.game_trait.specs.Deed.{Deed, Done, GaveUp, Lack}
use Rattle.game_trait.specs.Rules.{Rules}
use Rattle.phase_flow.specs.Automatic.{automatic, is_full, phase_ended as phase_says, with_automatic}
use Rattle.phase_flow.specs.Flow.{moved, with_count}
use Rattle.phase_flow.specs.Rows.{order_list, phase_after, turn_row}
use Rattle.phase_flow.specs.Settle.{end_game, end_phase, end_turn, end_turn_to, next_by, over, pass_or_end, run, settle}
use Rattle.phase_flow.specs.Step.{At, Ends, Step, and_then, by_itself, carry_on, ended_with, hooked, spoken, spoken_by}
use Rattle.phase_flow.specs.Turns.{enter, in_phase, order_begun, ordered, pass_on, phase_ended, phase_entered, phase_left, spec_set, turn, turned}
use Rattle.phase_flow.specs.declared.table.Table.{Table}
use Rattle.phase_flow.specs.declared.task.Task.{Task}
use Rattle.turn_order.specs.Position.{first, next}
use Rattle.std.specs.Option.{option_map_or}

-- a hook makes a state and queues nothing
abbrev pub IsQuiet : {A E : Type 0} → Deed A E → Type 0
IsQuiet (Done value left []) = Unit {0}
IsQuiet (Done value left (event ∷ queued)) = ⊥
IsQuiet (GaveUp why) = ⊥

-- a turn ends by itself only where it has a least count of moves
abbrev pub is_calm_turn : TurnRow → Bool
is_calm_turn row = is_none row.max_moves || nat_le 1 row.min_moves

pub record IsCalm {G : Type 0} (rules : Rules G) : Type 0 where
  pub on_move : (g : G) (ctx : Ctx) (seat : ℕ) (words : List ℕ) → IsQuiet (rules.on_move g ctx seat words)
  pub turn_begin : (g : G) (ctx : Ctx) (words : List ℕ) → IsQuiet (rules.turn_begin g ctx words)
  pub turn_end : (g : G) (ctx : Ctx) (words : List ℕ) → IsQuiet (rules.turn_end g ctx words)
  pub phase_begin : (g : G) (ctx : Ctx) (phase : ℕ) (words : List ℕ) → IsQuiet (rules.phase_begin g ctx phase words)
  pub phase_end : (g : G) (ctx : Ctx) (phase : ℕ) (words : List ℕ) → IsQuiet (rules.phase_end g ctx phase words)
  pub game_end : (g : G) (ctx : Ctx) (words : List ℕ) → IsQuiet (rules.game_end g ctx words)
  pub turn_end_if : (g : G) (ctx : Ctx) → rules.turn_end_if g ctx ≡ false
  pub phase_end_if : (g : G) (ctx : Ctx) → rules.phase_end_if g ctx ≡ false
  pub turns : (ctx : Ctx) → is_calm_turn (turn_row rules.sheet ctx) ≡ true
  -- only within a phase does a play order end
  pub goes_round : (ctx : Ctx) → ctx.phase ≡ None → is_some (next (turn_row rules.sheet ctx).order ctx.pos (length ctx.order)) ≡ true

-- it breaks no rule
abbrev pub IsAt : {G : Type 0} → Step G → Type 0
IsAt (At t words tasks after) = Unit {0}
IsAt (Ends rule) = ⊥

-- ---- parts of a task

hooked_by : {G : Type 0} (P : Step G → Type 0) (who : Option ℕ) (t : Table G) (tasks : List Task) (deed : Deed G Lack) → IsQuiet deed → ((g : G) (words : List ℕ) → P (At (record t { g = g }) words (tasks ++ []) false)) → P (hooked who t tasks deed)
hooked_by P who t tasks (Done g words []) quiet k = k g words
hooked_by P who t tasks (Done g words (event ∷ queued)) quiet k = absurd quiet
hooked_by P who t tasks (GaveUp why) quiet k = absurd quiet

ended_by : {G : Type 0} (P : Step G → Type 0) (t : Table G) (deed : Deed G Lack) → IsQuiet deed → ((g : G) (words : List ℕ) → P (At (record t { g = g }) words [] false)) → P (ended_with t deed)
ended_by P t (Done g words []) quiet k = k g words
ended_by P t (Done g words (event ∷ queued)) quiet k = absurd quiet
ended_by P t (GaveUp why) quiet k = absurd quiet

spec_moves : {G : Type 0} (rules : Rules G) (spec : Option ℕ) (t : Table G) → t.ctx.moves ≡ 0 → (spec_set rules.sheet spec t).ctx.moves ≡ 0
spec_moves rules None t none = none
spec_moves rules (Some spec) t none = none

over_by : {G : Type 0} (o : Option Outcome) (t : Table G) (words : List ℕ) (tasks : List Task) (go : Task → List Task → Step G) → is_some o ≡ true → IsAt (next_by o t words tasks go)
over_by None t words tasks go is = absurd (false≢true is)
over_by (Some outcome) t words tasks go is = tt

next_by_cases : {G : Type 0} (o : Option Outcome) (t : Table G) (words : List ℕ) (tasks : List Task) (go : Task → List Task → Step G) → ((task : Task) (rest : List Task) → tasks ≡ task ∷ rest → IsAt (go task rest)) → IsAt (next_by o t words tasks go)
next_by_cases (Some outcome) t words tasks go k = tt
next_by_cases None t words [] go k = tt
next_by_cases None t words (task ∷ tasks) go k = k task tasks refl

unless_over : {G : Type 0} (o : Option Outcome) (t : Table G) (words : List ℕ) (tasks : List Task) (go : Task → List Task → Step G) → IsAt (next_by None t words tasks go) → IsAt (next_by o t words tasks go)
unless_over None t words tasks go is = is
unless_over (Some outcome) t words tasks go is = tt

turn_by : (Q : Option Task → Type 0) (few full : Bool) → (few ≡ false → full ≡ true → Q (Some (by_itself (EndTurn None)))) → Q None → Q (if few then None else (if full then Some (by_itself (EndTurn None)) else None))
turn_by Q true full turns none = none
turn_by Q false true turns none = turns refl refl
turn_by Q false false turns none = none

phase_by : (Q : Option Task → Type 0) (phase : Option ℕ) (says : Bool) (otherwise : Option Task) → says ≡ false → Q otherwise → Q (phase_says phase says otherwise)
phase_by Q None says otherwise is q = q
phase_by Q (Some phase) true otherwise is q = absurd (false≢true (sym is))
phase_by Q (Some phase) false otherwise is q = q

match_by : (Q : Option Task → Type 0) (end : Option Outcome) (otherwise : Option Task) → ((outcome : Outcome) → Q (Some (by_itself (EndGame outcome)))) → Q otherwise → Q (option_map_or (λ outcome. Some (by_itself (EndGame outcome))) end otherwise)
match_by Q None otherwise ends q = q
match_by Q (Some outcome) otherwise ends q = ends outcome

-- no move was made in a turn that ends by itself
not_calm : (most : Option ℕ) (least moves : ℕ) (ctx : Ctx) → (is_none most || nat_le 1 least) ≡ true → moves ≡ 0 → nat_lt moves least ≡ false → is_full most ctx ≡ true → ⊥
not_calm None least moves ctx calm none many full = false≢true full
not_calm (Some most) least moves ctx calm none many full =
    let above : 1 ≤ least = leb-true 1 least calm in
    let below : nat_lt 0 least ≡ false = ap (λ n. nat_lt n least) (sym none) ∙ many in
    grind (arith, above, below)

-- ---- tasks of a calm game

module _ {G : Type 0} (rules : Rules G) (calm : IsCalm rules) where
  pub automatic_by : (Q : Option Task → Type 0) (t : Table G) → ((outcome : Outcome) → Q (Some (by_itself (EndGame outcome)))) → (nat_lt t.ctx.moves (turn_row rules.sheet t.ctx).min_moves ≡ false → is_full (turn_row rules.sheet t.ctx).max_moves t.ctx ≡ true → Q (Some (by_itself (EndTurn None)))) → Q None → Q (automatic rules t)
  automatic_by Q t ends turns none =
      let row = turn_row rules.sheet t.ctx in
      let full = is_full row.max_moves t.ctx in
      match_by Q (rules.end_if t.g t.ctx) _ ends
      (phase_by Q t.ctx.phase (rules.phase_end_if t.g t.ctx) _ (calm.phase_end_if t.g t.ctx)
      (turn_by Q (nat_lt t.ctx.moves row.min_moves) (rules.turn_end_if t.g t.ctx || full) (λ many is. turns many (ap (λ says. says || full) (sym (calm.turn_end_if t.g t.ctx)) ∙ is)) none))

  over_ends : (n : ℕ) (t : Table G) (words : List ℕ) (tasks : List Task) (after : Bool) → is_some t.ctx.over ≡ true → IsAt (settle rules n t words tasks after)
  unfolding settle
  over_ends zero t words tasks after is = over_by t.ctx.over t words (with_automatic rules after t tasks) _ is
  over_ends (suc n) t words tasks after is = over_by t.ctx.over t words (with_automatic rules after t tasks) _ is

  abbrev Goes : ℕ → Step G → Type 0
  Goes n s = IsAt (carry_on s (settle rules n))

  game_ends : (n : ℕ) (outcome : Outcome) (t : Table G) (words : List ℕ) → Goes n (end_game rules (over outcome t) words)
  game_ends n outcome t words = ended_by (Goes n) (over outcome t) (rules.game_end t.g (over outcome t).ctx words) (calm.game_end t.g (over outcome t).ctx words) (λ g left. over_ends n (record (over outcome t) { g = g }) left [] false refl)

  -- where what is put in front of some tasks goes on, a table settles with one task more
  one_more : (n : ℕ) (t : Table G) (words : List ℕ) (tasks : List Task) → ((outcome : Outcome) → Goes n (run rules (EndGame outcome) None t words tasks))
      → (nat_lt t.ctx.moves (turn_row rules.sheet t.ctx).min_moves ≡ false → is_full (turn_row rules.sheet t.ctx).max_moves t.ctx ≡ true → Goes n (run rules (EndTurn None) None t words tasks))
      → ((task : Task) (rest : List Task) → tasks ≡ task ∷ rest → Goes n (run rules task.event task.speaker t words rest)) → IsAt (settle rules (suc n) t words tasks false)
  unfolding settle
  one_more n t words tasks ends turns others =
      let go : Task → List Task → Step G = λ task rest. carry_on (run rules task.event task.speaker t words rest) (settle rules n) in
      unless_over t.ctx.over t words (option_map_or (λ task. task ∷ tasks) (automatic rules t) tasks) go
      (automatic_by (λ o. IsAt (next_by None t words (option_map_or (λ task. task ∷ tasks) o tasks) go)) t ends turns (next_by_cases None t words tasks go others))

  no_task : (P : Task → List Task → Type 0) (task : Task) (rest : List Task) → [] ≡ task ∷ rest → P task rest
  no_task P task rest is = cc

  -- a turn has begun, with nothing left to do
  begun_ends : (n : ℕ) (t : Table G) (words : List ℕ) → t.ctx.moves ≡ 0 → IsAt (settle rules (suc n) t words [] false)
  begun_ends n t words none =
      let row = turn_row rules.sheet t.ctx in
      one_more n t words [] (λ outcome. game_ends n outcome t words)
      (λ many full. absurd (not_calm row.max_moves row.min_moves t.ctx.moves t.ctx (calm.turns t.ctx) none many full))
      (no_task (λ task rest. Goes n (run rules task.event task.speaker t words rest)))

  turn_goes : (n place : ℕ) (t : Table G) (words : List ℕ) → Goes (suc n) (turn rules place t words [])
  turn_goes n place t words =
      let spec = (turn_row rules.sheet t.ctx).active in
      let begun = spec_set rules.sheet spec (turned place t) in
      hooked_by (Goes (suc n)) None begun [] (rules.turn_begin begun.g begun.ctx words) (calm.turn_begin begun.g begun.ctx words)
      (λ g left. begun_ends n (record begun { g = g }) left (spec_moves rules spec (turned place t) refl))

  passes : (n place : ℕ) (t : Table G) (words : List ℕ) → Goes (suc n) (pass_on rules place t words [])
  passes n place t words = hooked_by (λ s. Goes (suc n) (and_then s (turn rules place))) None t [] (rules.turn_end t.g t.ctx words) (calm.turn_end t.g t.ctx words) (λ g left. turn_goes n place (record t { g = g }) left)

  order_goes : (n : ℕ) (t : Table G) (words : List ℕ) → Goes (suc n) (order_begun rules false t words [])
  order_goes n t words =
      let row = turn_row rules.sheet t.ctx in
      let order = order_list row.order t.ctx.seats (rules.play_order t.g t.ctx) in
      turn_goes n (first row.order false t.ctx.pos (length order)) (ordered order t) words

  enters : (n : ℕ) (phase : Option ℕ) (t : Table G) (words : List ℕ) → Goes (suc n) (phase_entered rules false phase t words [])
  enters n None t words = order_goes n (in_phase None t) words
  enters n (Some phase) t words =
      let named = in_phase (Some phase) t in
      hooked_by (λ s. Goes (suc n) (and_then s (order_begun rules false))) None named [] (rules.phase_begin named.g named.ctx phase words) (calm.phase_begin named.g named.ctx phase words) (λ g left. order_goes n (record named { g = g }) left)

  leaves : (n : ℕ) (phase next : Option ℕ) (t : Table G) (words : List ℕ) → Goes (suc n) (and_then (phase_ended rules phase t words []) (phase_entered rules false next))
  leaves n None next t words = enters n next t words
  leaves n (Some phase) next t words = hooked_by (λ s. Goes (suc n) (and_then s (phase_entered rules false next))) None t [] (rules.phase_end t.g t.ctx phase words) (calm.phase_end t.g t.ctx phase words) (λ g left. enters n next (record t { g = g }) left)

  goes_over : (n : ℕ) (next : Option ℕ) (t : Table G) (words : List ℕ) → Goes (suc n) (enter rules next t words [])
  goes_over n next t words = hooked_by (λ s. Goes (suc n) (and_then s (phase_left rules next))) None t [] (rules.turn_end t.g t.ctx words) (calm.turn_end t.g t.ctx words) (λ g left. leaves n t.ctx.phase next (record t { g = g }) left)

  phase_ends : (n : ℕ) (phase : Option ℕ) (t : Table G) (words : List ℕ) → is_some phase ≡ true → Goes (suc n) (end_phase rules phase t words [])
  phase_ends n None t words is = absurd (false≢true is)
  phase_ends n (Some phase) t words is = goes_over n (phase_after rules.sheet phase) t words

  -- a turn's end has put a phase's end in front
  after_turn : (n : ℕ) (t : Table G) (words : List ℕ) → is_some t.ctx.phase ≡ true → IsAt (settle rules (suc (suc n)) t words (by_itself EndPhase ∷ []) true)
  unfolding settle
  after_turn n t words is =
      unless_over t.ctx.over t words (by_itself EndPhase ∷ []) (λ task rest. carry_on (run rules task.event task.speaker t words rest) (settle rules (suc n))) (phase_ends n t.ctx.phase t words is)

  no_next : (phase next : Option ℕ) → (phase ≡ None → is_some next ≡ true) → next ≡ None → is_some phase ≡ true
  no_next None next round none = absurd (false≢true (ap (λ (o : Option ℕ). is_some o) (sym none) ∙ round refl))
  no_next (Some phase) next round none = refl

  to_next : (n : ℕ) (next : Option ℕ) (t : Table G) (words : List ℕ) → (next ≡ None → is_some t.ctx.phase ≡ true) → Goes (suc (suc n)) (pass_or_end rules next t words [])
  to_next n None t words round = after_turn n t words (round refl)
  to_next n (Some place) t words round = passes (suc n) place t words

  either_goes : (n : ℕ) (few : Bool) (x y : Step G) → (few ≡ true → Goes n x) → Goes n y → Goes n (if few then x else y)
  either_goes n true x y p q = p refl
  either_goes n false x y p q = q

  turn_ends : (n : ℕ) (t : Table G) (words : List ℕ) → (nat_lt t.ctx.moves (turn_row rules.sheet t.ctx).min_moves ≡ true → Goes (suc (suc n)) (At t words [] false)) → Goes (suc (suc n)) (end_turn rules None t words [])
  turn_ends n t words early =
      let row = turn_row rules.sheet t.ctx in
      let after = next row.order t.ctx.pos (length t.ctx.order) in
      either_goes (suc (suc n)) (nat_lt t.ctx.moves row.min_moves) (At t words [] false) (end_turn_to rules None t words []) early
      (to_next n after t words (no_next t.ctx.phase after (calm.goes_round t.ctx)))

  -- no task is left, but for what comes by itself
  rested_ends : (n : ℕ) (t : Table G) (words : List ℕ) → IsAt (settle rules (suc (suc (suc n))) t words [] false)
  rested_ends n t words = one_more (suc (suc n)) t words [] (λ outcome. game_ends (suc (suc n)) outcome t words)
      (λ many full. turn_ends n t words (λ few. absurd (false≢true (sym many ∙ few))))
      (no_task (λ task rest. Goes (suc (suc n)) (run rules task.event task.speaker t words rest)))

  -- the end of a turn was asked for, in a turn that doesn't end by itself
  asked_ends : (n : ℕ) (who : Option ℕ) (t : Table G) (words : List ℕ) → (turn_row rules.sheet t.ctx).max_moves ≡ None → IsAt (settle rules (suc (suc (suc (suc n)))) t words (spoken who (EndTurn None) ∷ []) false)
  unfolding settle
  asked_ends n who t words endless =
      let go : Task → List Task → Step G = λ task rest. carry_on (run rules task.event task.speaker t words rest) (settle rules (suc (suc (suc n)))) in
      let tasks = spoken who (EndTurn None) ∷ [] in
      unless_over t.ctx.over t words (option_map_or (λ task. task ∷ tasks) (automatic rules t) tasks) go
      (automatic_by (λ o. IsAt (next_by None t words (option_map_or (λ task. task ∷ tasks) o tasks) go)) t (λ outcome. game_ends (suc (suc (suc n))) outcome t words)
      (λ many full. absurd (false≢true (ap (λ most. is_full most t.ctx) (sym endless) ∙ full)))
      (turn_ends (suc n) t words (λ few. rested_ends n t words)))

  -- a move that queues nothing
  pub quiet_move_ends : (seat : ℕ) (is : Bool) (t : Table G) (words : List ℕ) → IsAt (moved rules seat is t words [])
  unfolding moved
  quiet_move_ends seat is t words =
      let counted = with_count rules.sheet is seat t in
      hooked_by (Goes 64) (Some seat) counted [] (rules.on_move counted.g counted.ctx seat words) (calm.on_move counted.g counted.ctx seat words) (λ g left. rested_ends 61 (record counted { g = g }) left)

  -- a move that ends the turn, where no turn ends by itself
  pub turning_move_ends : (seat : ℕ) (is : Bool) (t : Table G) (words : List ℕ) → ((ctx : Ctx) → (turn_row rules.sheet ctx).max_moves ≡ None) → IsAt (moved rules seat is t words (EndTurn None ∷ []))
  unfolding moved
  turning_move_ends seat is t words endless =
      let counted = with_count rules.sheet is seat t in
      hooked_by (Goes 64) (Some seat) counted (spoken_by (Some seat) (EndTurn None ∷ [])) (rules.on_move counted.g counted.ctx seat words) (calm.on_move counted.g counted.ctx seat words) (λ g left. asked_ends 60 (Some seat) (record counted { g = g }) left (endless counted.ctx))
