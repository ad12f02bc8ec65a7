-- A move that is made in a calm game breaks no rule where the seat has it.
use Rattle.std.specs.Prelude.{◌≡◌, ◌==◌, ◌<◌, ◌^◌, ◌%◌, ℕ, zero, suc, Bool, true, false, if◌then◌else◌, is_none, is_some, length, List, [], ◌∷◌, Option, Some, None, slice_get, option_and_then, unwrap_or, refl}
use Rattle.std.specs.List.{AllByRecursion}
use Rattle.std.proofs.Common.{◌∙◌, ap, subst, arith}
use Rattle.std.proofs.lemmas.Bool.{false≢true, and_parts}
use Rattle.rand_chacha.specs.Block.{block_word}
use Rattle.dice_words.specs.Words.{word, words}
use Rattle.dice_words.proofs.WordsLemmas.{length_words}
use Rattle.game_sheet.specs.declared.act.Act.TheVariants.{Move}
use Rattle.game_sheet.specs.declared.act.Event.TheVariants.{EndTurn}
use Rattle.game_sheet.specs.declared.args.Arg.{Arg}
use Rattle.game_sheet.specs.declared.ctx.Ctx.{Ctx}
use Rattle.game_sheet.specs.declared.act.Outcome.{Outcome}
use Rattle.game_sheet.specs.declared.sheet.Order.{Order}
use Rattle.game_sheet.specs.declared.sheet.Order.TheVariants.{Default}
use Rattle.game_sheet.specs.declared.sheet.PhaseRow.{PhaseRow}
use Rattle.game_sheet.specs.declared.sheet.Sheet.{Sheet}
use Rattle.game_sheet.specs.declared.sheet.StageRow.{StageRow}
use Rattle.game_sheet.specs.declared.sheet.TurnRow.{TurnRow}
use Rattle.game_trait.specs.Deed.{Barred, Deed, Done, GaveUp}
use Rattle.game_trait.specs.Offers.{may_be_offered, offered}
use Rattle.game_trait.specs.Rules.{Rules}
use Rattle.open_game.specs.Form.{Form}
use Rattle.open_game.specs.OpenRules.{OpenRules, of_open}
use Rattle.phase_flow.specs.Action as action
use Rattle.phase_flow.specs.Reached.{Reached, table_of}
use Rattle.phase_flow.specs.Rows.{turn_of_phase, turn_row}
use Rattle.phase_flow.specs.Step.{At, Ends, Step}
use Rattle.phase_flow.specs.declared.table.Table.{Table}
use Rattle.std.specs.Result.{result_err}
use Rattle.stage_map.specs.Moves.{may, moves_at, phase_moves, place_of, stage_moves}
use Rattle.stage_map.specs.Parts.{may_on}
use Rattle.turn_order.specs.Position.{next}
use Rattle.offered_moves.specs.Admitted.{IsAdmitted}
use Rattle.offered_moves.proofs.Ending.{IsAt, IsCalm, IsQuiet, is_calm_turn, quiet_move_ends, turning_move_ends}
use Rattle.offered_moves.proofs.TableOffers.{AreWords, IsMade, if_offered}
use Rattle.std.specs.Option.{option_map_or}

-- ---- the words of an action

pub some_words : (seed : List ℕ) (place : ℕ) → 0 < length (action.words_from seed place)
some_words seed place = omega (arith, length_words seed 0 place 256)

low_word : (seed : List ℕ) (stream place : ℕ) → word seed stream place < 2 ^ 32
unfolding word block_word
low_word seed stream place = omega arith

words_low : (seed : List ℕ) (stream place n : ℕ) → AreWords (words seed stream place n)
unfolding words
words_low seed stream place zero first left is = cc
words_low seed stream place (suc n) first left is =
    let same : word seed stream (place % 2 ^ 64) ≡ first = cc in
    subst (λ w. w < 2 ^ 32) same (low_word seed stream (place % 2 ^ 64))

pub are_words : (seed : List ℕ) (place : ℕ) → AreWords (action.words_from seed place)
are_words seed place = words_low seed 0 place 256

-- ---- the moves of a seat

yes_then : (Q : List ℕ → Type 0) (is : Bool) (list : List ℕ) → is ≡ true → Q list → Q (if is then list else [])
yes_then Q true list is q = q
yes_then Q false list is q = absurd (false≢true is)

listed_by : (sheet : Sheet) (phase : Option ℕ) (place : Option (Option ℕ)) (Q : List ℕ → Type 0) → is_some place ≡ true → ((stage : Option ℕ) → Q (moves_at sheet phase stage)) → Q (option_map_or (moves_at sheet phase) place [])
listed_by sheet phase None Q is each = absurd (false≢true is)
listed_by sheet phase (Some stage) Q is each = each stage

-- a seat that may act has the moves of its phase and some stage
pub moves_by : (sheet : Sheet) (phase : Option ℕ) (active : Option (List (ℕ × Option ℕ))) (current seat : ℕ) (Q : List ℕ → Type 0) → may_on active current seat ≡ true → ((stage : Option ℕ) → Q (moves_at sheet phase stage)) → Q (option_map_or (λ rows. option_map_or (moves_at sheet phase) (place_of rows seat) []) active (if seat == current then moves_at sheet phase None else []))
moves_by sheet phase None current seat Q may each = yes_then Q (seat == current) (moves_at sheet phase None) may (each None)
moves_by sheet phase (Some rows) current seat Q may each = listed_by sheet phase (place_of rows seat) Q may each

stage_none : (sheet : Sheet) (stage : Option ℕ) → sheet.stages ≡ [] → stage_moves sheet stage ≡ None
stage_none sheet None none = refl
stage_none sheet (Some stage) none = ap (λ rows. option_and_then (λ (row : StageRow). row.moves) (slice_get rows stage)) none

phase_none : (sheet : Sheet) (phase : Option ℕ) → sheet.phases ≡ [] → phase_moves sheet phase ≡ None
phase_none sheet None none = refl
phase_none sheet (Some phase) none = ap (λ rows. option_and_then (λ (row : PhaseRow). row.moves) (slice_get rows phase)) none

-- where no stage and no phase has moves of its own they are the game's
pub base_moves : (sheet : Sheet) (phase stage : Option ℕ) → sheet.phases ≡ [] → stage_moves sheet stage ≡ None → moves_at sheet phase stage ≡ sheet.base
base_moves sheet phase stage phases stages = ap (λ in_stage. unwrap_or in_stage (unwrap_or (phase_moves sheet phase) sheet.base)) stages ∙ ap (λ in_phase. unwrap_or None (unwrap_or in_phase sheet.base)) (phase_none sheet phase phases)

pub plain_moves : (sheet : Sheet) (phase stage : Option ℕ) → sheet.phases ≡ [] → sheet.stages ≡ [] → moves_at sheet phase stage ≡ sheet.base
plain_moves sheet phase stage phases stages = base_moves sheet phase stage phases (stage_none sheet stage stages)

-- ---- the turns of a sheet without phases

row_none : (sheet : Sheet) (phase : Option ℕ) → sheet.phases ≡ [] → option_and_then (slice_get sheet.phases) phase ≡ None
row_none sheet None none = refl
row_none sheet (Some phase) none = ap (λ rows. slice_get rows phase) none

pub one_row : (sheet : Sheet) (ctx : Ctx) → sheet.phases ≡ [] → turn_row sheet ctx ≡ sheet.turn
one_row sheet ctx none = ap (turn_of_phase sheet.turn) (row_none sheet ctx.phase none)

pub one_is_calm : (sheet : Sheet) (ctx : Ctx) → sheet.phases ≡ [] → is_calm_turn sheet.turn ≡ true → is_calm_turn (turn_row sheet ctx) ≡ true
one_is_calm sheet ctx none calm = ap is_calm_turn (one_row sheet ctx none) ∙ calm

pub one_goes_round : (sheet : Sheet) (ctx : Ctx) → sheet.phases ≡ [] → sheet.turn.order ≡ Default → is_some (next (turn_row sheet ctx).order ctx.pos (length ctx.order)) ≡ true
one_goes_round sheet ctx none order =
    ap (λ (row : TurnRow). is_some (next row.order ctx.pos (length ctx.order))) (one_row sheet ctx none) ∙ ap (λ (o : Order). is_some (next o ctx.pos (length ctx.order))) order

pub open_calm : {G : Type 0} (form : Form G) (rules : OpenRules G) → rules.sheet.phases ≡ [] → is_calm_turn rules.sheet.turn ≡ true → rules.sheet.turn.order ≡ Default → IsCalm (of_open form rules)
open_calm form rules phases turn order = record {
  on_move = λ g ctx seat words. tt;
  turn_begin = λ g ctx words. tt;
  turn_end = λ g ctx words. tt;
  phase_begin = λ g ctx phase words. tt;
  phase_end = λ g ctx phase words. tt;
  game_end = λ g ctx words. tt;
  turn_end_if = λ g ctx. refl;
  phase_end_if = λ g ctx. refl;
  turns = λ ctx. one_is_calm rules.sheet ctx phases turn;
  goes_round = λ ctx none. one_goes_round rules.sheet ctx phases order;
}

-- ---- offers

none_is : (o : Option Outcome) → is_none o ≡ true → o ≡ None
none_is None is = refl
none_is (Some outcome) is = absurd (false≢true is)

-- moves are offered while the match goes on, and to a seat that may act
pub offered_by : (P : ℕ × List Arg → Type 0) (ctx : Ctx) (seat : ℕ) (offers : List (ℕ × List Arg)) → (ctx.over ≡ None → may ctx seat ≡ true → AllByRecursion P offers) → AllByRecursion P (offered ctx seat offers)
offered_by P ctx seat offers all = if_offered P (may_be_offered ctx seat) offers (λ is. let parts = and_parts (is_none ctx.over) (may ctx seat) is in all (none_is ctx.over parts.0) parts.1)

pub all_mapped : {A : Type 0} (P Q : A → Type 0) (list : List A) → ((x : A) → P x → Q x) → AllByRecursion P list → AllByRecursion Q list
all_mapped P Q [] each all = tt
all_mapped P Q (x ∷ list) each all = (each x all.0, all_mapped P Q list each all.1)

module _ {G : Type 0} (rules : Rules G) (calm : IsCalm rules) where
  accepted_at : (seed : List ℕ) (place : ℕ) (s : Step G) → IsAt s → result_err (action.come_to seed place s) ≡ None
  accepted_at seed place (At t words tasks after) is = refl
  accepted_at seed place (Ends rule) is = absurd is

  quiet_played : (t : Table G) (seat : ℕ) (is : Bool) (deed : Deed G Barred) → IsQuiet deed → IsAt (action.played rules t seat is deed)
  quiet_played t seat is (Done g left []) quiet = quiet_move_ends rules calm seat is (record t { g = g }) left
  quiet_played t seat is (Done g left (event ∷ queued)) quiet = absurd quiet
  quiet_played t seat is (GaveUp why) quiet = absurd quiet

  pub quiet_accepted : (r : Reached G) (seat id : ℕ) (args : List Arg) → IsQuiet (rules.play r.g r.ctx seat id args (action.words_from r.seed r.place)) → result_err (action.once rules r seat (Move id args)) ≡ None
  unfolding action.once
  quiet_accepted r seat id args quiet = accepted_at r.seed r.place (action.acted rules (table_of r) seat (Move id args) (action.words_from r.seed r.place)) (quiet_played (table_of r) seat (action.counts rules.sheet id) _ quiet)

  made_played : (t : Table G) (seat : ℕ) (is : Bool) (deed : Deed G Barred) → ((ctx : Ctx) → (turn_row rules.sheet ctx).max_moves ≡ None) → IsMade deed → IsAt (action.played rules t seat is deed)
  made_played t seat is (Done g left []) endless made = quiet_move_ends rules calm seat is (record t { g = g }) left
  made_played t seat is (Done g left (EndTurn None ∷ [])) endless made = turning_move_ends rules calm seat is (record t { g = g }) left endless
  made_played t seat is deed endless made = absurd made

  pub made_accepted : (r : Reached G) (seat id : ℕ) (args : List Arg) → ((ctx : Ctx) → (turn_row rules.sheet ctx).max_moves ≡ None) → IsMade (rules.play r.g r.ctx seat id args (action.words_from r.seed r.place)) → result_err (action.once rules r seat (Move id args)) ≡ None
  unfolding action.once
  made_accepted r seat id args endless made = accepted_at r.seed r.place (action.acted rules (table_of r) seat (Move id args) (action.words_from r.seed r.place)) (made_played (table_of r) seat (action.counts rules.sheet id) _ endless made)

  -- an offered move breaks no rule
  abbrev pub Allowed : Reached G → ℕ → ℕ × List Arg → Type 0
  Allowed r seat offer = IsAdmitted rules.sheet r.ctx seat (Move offer.0 offer.1) × (result_err (action.once rules r seat (Move offer.0 offer.1)) ≡ None)
