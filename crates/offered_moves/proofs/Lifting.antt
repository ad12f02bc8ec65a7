-- Each of the games is calm among all games, and what its rules keep of a state its hooks keep.
use Rattle.std.specs.Prelude.{◌≡◌, ◌<◌, ℕ, zero, suc, Bool, true, false, is_some, length, List, [], ◌∷◌, Option, Some, None, IfSome, IsTrue, refl, option_and_then, slice_get}
use Rattle.std.proofs.Common.{ap, subst, arith}
use Rattle.any_game.specs.AnyRules.{any_rules}
use Rattle.any_game.specs.GameKind.{GameKind, TicTacToe, Countdown, Pig, HighHand, BlindBid, Captions}
use Rattle.any_game.specs.Lifted.{lifted, lifted_deed}
use Rattle.any_game.specs.Values.{as_bids, as_board, as_cards, as_heap, as_points, as_texts}
use Rattle.any_game.specs.declared.any_g.AnyG.{AnyG}
use Rattle.any_game.specs.declared.any_g.AnyG.TheVariants.{TicTacToe as OfTicTacToe, Countdown as OfCountdown, Pig as OfPig, HighHand as OfHighHand, BlindBid as OfBlindBid, Captions as OfCaptions}
use Rattle.card_games.specs.BlindBid.{blind_bid}
use Rattle.card_games.specs.Captions.{captions}
use Rattle.card_games.specs.HighHand.{high_hand, high_hand_sheet}
use Rattle.card_games.specs.declared.dealt.Dealt.{Dealt}
use Rattle.game_sheet.specs.declared.act.Event.{Event}
use Rattle.game_sheet.specs.declared.act.Event.TheVariants.{EndTurn, EndPhase, SetPhase, EndStage, SetStage, SetActive, EndGame}
use Rattle.game_sheet.specs.declared.ctx.Ctx.{Ctx}
use Rattle.game_sheet.specs.declared.sheet.PhaseRow.{PhaseRow}
use Rattle.game_sheet.specs.declared.sheet.Sheet.{Sheet}
use Rattle.game_trait.specs.Deed.{Barred, Deed, Done, GaveUp, Lack}
use Rattle.game_trait.specs.InSheet.{EventInSheet}
use Rattle.game_trait.specs.Lawful.{GivesOwn, Lawful}
use Rattle.game_trait.specs.Queues.{AllInSheet}
use Rattle.game_trait.specs.Rules.{Rules}
use Rattle.open_game.specs.Form.{Form}
use Rattle.open_game.specs.OpenRules.{OpenRules, of_open}
use Rattle.phase_flow.specs.Rows.{turn_of_phase}
use Rattle.table_states.specs.Countdown.{countdown}
use Rattle.table_states.specs.Pig.{pig}
use Rattle.table_states.specs.StateForms.{board_form, heap_form, points_form}
use Rattle.table_states.specs.TicTacToe.{tic_tac_toe}
use Rattle.turn_order.specs.Position.{next}
use Rattle.offered_moves.proofs.Allowing.{one_goes_round, one_is_calm, open_calm}
use Rattle.offered_moves.proofs.Ending.{IsCalm, IsQuiet, is_calm_turn}
use Rattle.offered_moves.proofs.Holding.{AreKept, ArePlain, Gives, IsPlain}
use Rattle.offered_moves.proofs.TableOffers.{IsMade}
use Rattle.std.specs.Option.{option_map_or}

pub lifted_quiet : {G E : Type 0} (inject : G → AnyG) (deed : Deed G E) → IsQuiet deed → IsQuiet (lifted_deed inject deed)
lifted_quiet inject (Done g left []) quiet = tt
lifted_quiet inject (Done g left (event ∷ queued)) quiet = quiet
lifted_quiet inject (GaveUp why) quiet = quiet

pub lifted_made : {G : Type 0} (inject : G → AnyG) (deed : Deed G Barred) → IsMade deed → IsMade (lifted_deed inject deed)
lifted_made inject (Done g left []) made = tt
lifted_made inject (Done g left (EndTurn None ∷ [])) made = tt
lifted_made inject deed made = absurd made

own_quiet : {G E : Type 0} (inject : G → AnyG) (own : Option G) (otherwise : Deed AnyG E) (go : G → Deed G E) → IsQuiet otherwise → ((g : G) → IsQuiet (go g)) → IsQuiet (option_map_or (λ g. lifted_deed inject (go g)) own otherwise)
own_quiet inject None otherwise go quiet each = quiet
own_quiet inject (Some g) otherwise go quiet each = lifted_quiet inject (go g) (each g)

own_false : {G : Type 0} (own : Option G) (go : G → Bool) → ((g : G) → go g ≡ false) → option_map_or go own false ≡ false
own_false None go each = refl
own_false (Some g) go each = each g

lifted_calm : {G : Type 0} (inject : G → AnyG) (project : AnyG → Option G) (rules : Rules G) → IsCalm rules → IsCalm (lifted inject project rules)
lifted_calm inject project rules calm = record {
  on_move = λ g ctx seat words. own_quiet inject (project g) (Done g words []) (λ own. rules.on_move own ctx seat words) tt (λ own. calm.on_move own ctx seat words);
  turn_begin = λ g ctx words. own_quiet inject (project g) (Done g words []) (λ own. rules.turn_begin own ctx words) tt (λ own. calm.turn_begin own ctx words);
  turn_end = λ g ctx words. own_quiet inject (project g) (Done g words []) (λ own. rules.turn_end own ctx words) tt (λ own. calm.turn_end own ctx words);
  phase_begin = λ g ctx phase words. own_quiet inject (project g) (Done g words []) (λ own. rules.phase_begin own ctx phase words) tt (λ own. calm.phase_begin own ctx phase words);
  phase_end = λ g ctx phase words. own_quiet inject (project g) (Done g words []) (λ own. rules.phase_end own ctx phase words) tt (λ own. calm.phase_end own ctx phase words);
  game_end = λ g ctx words. own_quiet inject (project g) (Done g words []) (λ own. rules.game_end own ctx words) tt (λ own. calm.game_end own ctx words);
  turn_end_if = λ g ctx. own_false (project g) (λ own. rules.turn_end_if own ctx) (λ own. calm.turn_end_if own ctx);
  phase_end_if = λ g ctx. own_false (project g) (λ own. rules.phase_end_if own ctx) (λ own. calm.phase_end_if own ctx);
  turns = calm.turns;
  goes_round = calm.goes_round;
}

bids_calm : IsCalm blind_bid
bids_calm = record {
  on_move = λ g ctx seat words. tt;
  turn_begin = λ g ctx words. tt;
  turn_end = λ g ctx words. tt;
  phase_begin = λ g ctx phase words. tt;
  phase_end = λ g ctx phase words. tt;
  game_end = λ g ctx words. tt;
  turn_end_if = λ g ctx. refl;
  phase_end_if = λ g ctx. refl;
  turns = λ ctx. one_is_calm blind_bid.sheet ctx refl refl;
  goes_round = λ ctx none. one_goes_round blind_bid.sheet ctx refl refl;
}

texts_calm : IsCalm captions
texts_calm = record {
  on_move = λ g ctx seat words. tt;
  turn_begin = λ g ctx words. tt;
  turn_end = λ g ctx words. tt;
  phase_begin = λ g ctx phase words. tt;
  phase_end = λ g ctx phase words. tt;
  game_end = λ g ctx words. tt;
  turn_end_if = λ g ctx. refl;
  phase_end_if = λ g ctx. refl;
  turns = λ ctx. one_is_calm captions.sheet ctx refl refl;
  goes_round = λ ctx none. one_goes_round captions.sheet ctx refl refl;
}

hand_turns : (phase : Option ℕ) → is_calm_turn (turn_of_phase high_hand_sheet.turn (option_and_then (slice_get high_hand_sheet.phases) phase)) ≡ true
hand_turns None = refl
hand_turns (Some zero) = refl
hand_turns (Some (suc zero)) = refl
hand_turns (Some (suc (suc phase))) = refl

cards_calm : (deck : Option Dealt) → IsCalm (high_hand deck)
cards_calm deck = record {
  on_move = λ g ctx seat words. tt;
  turn_begin = λ g ctx words. tt;
  turn_end = λ g ctx words. tt;
  phase_begin = λ g ctx phase words. tt;
  phase_end = λ g ctx phase words. tt;
  game_end = λ g ctx words. tt;
  turn_end_if = λ g ctx. refl;
  phase_end_if = λ g ctx. refl;
  turns = λ ctx. hand_turns ctx.phase;
  goes_round = λ ctx none. ap (λ phase. is_some (next (turn_of_phase high_hand_sheet.turn (option_and_then (slice_get high_hand_sheet.phases) phase)).order ctx.pos (length ctx.order))) none;
}

pub all_calm : (kind : GameKind) → IsCalm (any_rules kind)
all_calm TicTacToe = lifted_calm OfTicTacToe as_board (of_open board_form tic_tac_toe) (open_calm board_form tic_tac_toe refl refl refl)
all_calm Countdown = lifted_calm OfCountdown as_heap (of_open heap_form countdown) (open_calm heap_form countdown refl refl refl)
all_calm Pig = lifted_calm OfPig as_points (of_open points_form pig) (open_calm points_form pig refl refl refl)
all_calm (HighHand deck) = lifted_calm OfHighHand as_cards (high_hand deck) (cards_calm deck)
all_calm BlindBid = lifted_calm OfBlindBid as_bids blind_bid bids_calm
all_calm Captions = lifted_calm OfCaptions as_texts captions texts_calm

-- ---- events of a sheet without phases

pub plain_in_sheet : (sheet : Sheet) (event : Event) → sheet.phases ≡ [] → EventInSheet sheet event → IsPlain event
plain_in_sheet sheet (EndTurn to) none known = tt
plain_in_sheet sheet EndPhase none known = tt
plain_in_sheet sheet (SetPhase to) none known = let empty : to < 0 = subst (λ (rows : List PhaseRow). to < length rows) none known in absurd (omega arith)
plain_in_sheet sheet EndStage none known = tt
plain_in_sheet sheet (SetStage to) none known = tt
plain_in_sheet sheet (SetActive spec) none known = tt
plain_in_sheet sheet (EndGame outcome) none known = tt

pub all_plain : (sheet : Sheet) (events : List Event) → sheet.phases ≡ [] → AllInSheet sheet events → ArePlain events
all_plain sheet [] none known = tt
all_plain sheet (event ∷ events) none known = (plain_in_sheet sheet event none known.0, all_plain sheet events none known.1)

-- ---- hooks that leave the state

module _ {G : Type 0} (inject : G → AnyG) (project : AnyG → Option G) (tells : (g : AnyG) → IfSome (project g) (λ own. g ≡ inject own)) (form : Form G) (open_rules : OpenRules G) (calm : IsCalm (lifted inject project (of_open form open_rules))) (P : AnyG → Type 0) where
  abbrev rules : Rules AnyG
  rules = lifted inject project (of_open form open_rules)

  abbrev pub On : AnyG → ℕ → Option ℕ → Type 0
  On g seats phase = P g

  idle_gives : (g : AnyG) (ctx : Ctx) (words : List ℕ) (own : Option G) → IfSome own (λ h. g ≡ inject h) → P g → Gives rules calm On {E = Lack} ctx (option_map_or (λ h. lifted_deed inject (Done h words [])) own (Done g words []))
  idle_gives g ctx words None same is = is
  idle_gives g ctx words (Some own) same is = subst P same is

  pub open_kept : AreKept rules calm On
  open_kept = record {
    on_move = λ g ctx seat words is. idle_gives g ctx words (project g) (tells g) is;
    turn_begin = λ g ctx words is. idle_gives g ctx words (project g) (tells g) is;
    turn_end = λ g ctx words is. idle_gives g ctx words (project g) (tells g) is;
    phase_begin = λ g ctx phase words is. idle_gives g ctx words (project g) (tells g) is;
    phase_end = λ g ctx phase words is. idle_gives g ctx words (project g) (tells g) is;
    game_end = λ g ctx words is. idle_gives g ctx words (project g) (tells g) is;
    next = λ g seats phase is. is;
  }

-- ---- own states

module _ {G : Type 0} (rules : Rules G) (calm : IsCalm rules) (lawful : Lawful rules) where
  abbrev pub IsOwnAt : G → ℕ → Option ℕ → Type 0
  IsOwnAt g seats phase = IsTrue (rules.own g)

  pub own_gives : {E : Type 0} (ctx : Ctx) (deed : Deed G E) → GivesOwn rules.own deed → Gives rules calm IsOwnAt {E = E} ctx deed
  own_gives ctx (Done g left queued) is = is
  own_gives ctx (GaveUp why) is = tt

  pub own_kept : AreKept rules calm IsOwnAt
  own_kept = record {
    on_move = λ g ctx seat words is. own_gives ctx (rules.on_move g ctx seat words) (lawful.on_move g ctx seat words is);
    turn_begin = λ g ctx words is. own_gives ctx (rules.turn_begin g ctx words) (lawful.turn_begin g ctx words is);
    turn_end = λ g ctx words is. own_gives ctx (rules.turn_end g ctx words) (lawful.turn_end g ctx words is);
    phase_begin = λ g ctx phase words is. own_gives ctx (rules.phase_begin g ctx phase words) (lawful.phase_begin g ctx phase words is);
    phase_end = λ g ctx phase words is. own_gives ctx (rules.phase_end g ctx phase words) (lawful.phase_end g ctx phase words is);
    game_end = λ g ctx words is. own_gives ctx (rules.game_end g ctx words) (lawful.game_end g ctx words is);
    next = λ g seats phase is. is;
  }
