-- Where a match of each of the games stands, with what holds of every match of the game, the moves that a seat is offered break no rule.
use Rattle.std.specs.Prelude.{◌≡◌, ◌==◌, ◌<◌, ◌≤◌, ◌+◌, ◌*◌, ℕ, zero, suc, Bool, true, false, ◌||◌, if◌then◌else◌, nat_eq, is_some, length, List, [], ◌∷◌, Option, Some, None, IsTrue, option_map, refl}
use Rattle.std.specs.List.{AllByRecursion, list_any}
use Rattle.std.proofs.Common.{◌∙◌, ap, sym, subst, arith}
use Rattle.std.proofs.lemmas.Bool.{false≢true, eqb-true}
use Rattle.any_game.specs.AnyRules.{any_rules}
use Rattle.any_game.specs.GameKind.{TicTacToe, Countdown, Pig, HighHand, BlindBid, Captions}
use Rattle.any_game.specs.declared.any_g.AnyG.{AnyG}
use Rattle.any_game.specs.declared.any_g.AnyG.TheVariants.{TicTacToe as OfTicTacToe, Countdown as OfCountdown, Pig as OfPig, HighHand as OfHighHand, BlindBid as OfBlindBid, Captions as OfCaptions}
use Rattle.card_games.specs.BlindBid.{bid_move, bid_offers, bid_sheet}
use Rattle.card_games.specs.Captions.{caption_offers, caption_sheet, write}
use Rattle.card_games.specs.HighHand.{Cards, card_move, card_offers, high_hand_sheet}
use Rattle.card_games.specs.declared.dealt.Dealt.{Dealt}
use Rattle.game_sheet.specs.declared.act.Outcome.{Outcome}
use Rattle.game_sheet.specs.declared.act.Outcome.TheVariants.{Winner}
use Rattle.game_sheet.specs.declared.ctx.Ctx.{Ctx}
use Rattle.game_sheet.specs.declared.sheet.Sheet.{Sheet}
use Rattle.game_sheet.specs.declared.sheet.TurnRow.{TurnRow}
use Rattle.phase_flow.specs.Action.{words_from}
use Rattle.phase_flow.specs.Automatic.{automatic}
use Rattle.phase_flow.specs.Reached.{Reached, table_of}
use Rattle.phase_flow.specs.Rows.{turn_row}
use Rattle.phase_flow.specs.declared.task.Task.{Task}
use Rattle.stage_map.specs.Active.{Map}
use Rattle.stage_map.specs.Moves.{may, moves, moves_at, stage_moves}
use Rattle.table_states.specs.Countdown.{countdown}
use Rattle.table_states.specs.Pig.{pig}
use Rattle.table_states.specs.TicTacToe.{tic_tac_toe}
use Rattle.table_states.specs.declared.heap.Heap.{Heap}
use Rattle.offered_moves.proofs.Allowing.{Allowed, all_mapped, are_words, base_moves, made_accepted, moves_by, offered_by, one_row, plain_moves, quiet_accepted, some_words}
use Rattle.offered_moves.proofs.CardFlow.{Deals, DealsFirst}
use Rattle.offered_moves.proofs.CardMatches.{IsDeal, can_draw}
use Rattle.offered_moves.proofs.CardOffers.{Bid, CanDraw, Plays, Writes, bids_made, cards_made, texts_made}
use Rattle.offered_moves.proofs.Lifting.{all_calm, lifted_made, lifted_quiet}
use Rattle.offered_moves.proofs.TableMatches.{HasTotals, WasTaken, has_total}
use Rattle.offered_moves.proofs.TableOffers.{Clicks, Rolls, Takes, clicks_made, is_zero, rolls_made, takes_made}
use Rattle.std.specs.Option.{option_map_or}
use Rattle.game_sheet.specs.declared.act.Event.TheVariants.{EndGame}
use Rattle.phase_flow.specs.Step.{by_itself}

-- ---- the moves that a seat has

abbrev Has : ℕ → List ℕ → Type 0
Has id list = list_any (λ m. m == id) list ≡ true

one_has : (id : ℕ) → id ≡ 0 → Has id (0 ∷ [])
one_has id is = ap (λ i. (0 == i) || false) is

two_have : (id : ℕ) → id < 2 → Has id (0 ∷ 1 ∷ [])
two_have zero low = refl
two_have (suc zero) low = refl
two_have (suc (suc id)) low = absurd (omega arith)

base_has : (sheet : Sheet) (ctx : Ctx) (seat id : ℕ) → may ctx seat ≡ true → ((stage : Option ℕ) → moves_at sheet ctx.phase stage ≡ sheet.base) → Has id sheet.base → Has id (moves sheet ctx seat)
base_has sheet ctx seat id active base has = moves_by sheet ctx.phase ctx.active ctx.current seat (Has id) active (λ stage. ap (λ list. list_any (λ m. m == id) list) (base stage) ∙ has)

-- what a match stands at
abbrev at : AnyG → Ctx → Map → List ℕ → ℕ → Reached AnyG
at g ctx active seed place = record { g = g; ctx = ctx; active = active; seed = seed; place = place }

-- ---- tic-tac-toe

pub board_allowed : (g : AnyG) (ctx : Ctx) (active : Map) (seed : List ℕ) (place seat : ℕ) → seat < 2 → AllByRecursion (Allowed (any_rules TicTacToe) (all_calm TicTacToe) (at g ctx active seed place) seat) ((any_rules TicTacToe).options g ctx seat)
board_allowed (OfTicTacToe b) ctx active seed place seat low =
    let one = Allowed (any_rules TicTacToe) (all_calm TicTacToe) (at (OfTicTacToe b) ctx active seed place) seat in
    let words = words_from seed place in
    offered_by one ctx seat (tic_tac_toe.offers b seat) (λ on mays. all_mapped (Clicks b seat words) one (tic_tac_toe.offers b seat)
    (λ offer made. (
      record { goes_on = on; active = mays; has = base_has tic_tac_toe.sheet ctx seat offer.0 mays (λ stage. plain_moves tic_tac_toe.sheet ctx.phase stage refl refl) (one_has offer.0 made.0) },
      quiet_accepted (any_rules TicTacToe) (all_calm TicTacToe) (at (OfTicTacToe b) ctx active seed place) seat offer.0 offer.1 (lifted_quiet OfTicTacToe (tic_tac_toe.play b seat offer.0 offer.1 words) made.1),
    ))
    (clicks_made b seat words low))
board_allowed g ctx active seed place seat low = tt

-- ---- Countdown

-- an empty heap was taken by somebody
abbrev pub HeapHas : AnyG → Type 0
HeapHas (OfCountdown h) = WasTaken h
HeapHas _ = Unit {0}

no_end : (end : Option Outcome) (otherwise : Option Task) → option_map_or (λ outcome. Some (by_itself (EndGame outcome))) end otherwise ≡ None → end ≡ None
no_end None otherwise is = refl
no_end (Some outcome) otherwise is = absurd (cc)

no_winner : (last : Option ℕ) → option_map Winner last ≡ None → is_some last ≡ true → ⊥
no_winner None is some = false≢true some
no_winner (Some seat) is some = cc

some_left : (h : Heap) (none : Bool) → nat_eq h.left 0 ≡ none → (if none then option_map Winner h.last else None) ≡ None → WasTaken h → 0 < h.left
some_left h true is ends taken = let empty : h.left ≡ 0 = eqb-true h.left 0 is in absurd (no_winner h.last ends (taken empty))
some_left h false is ends taken = is_zero h.left is

pub heap_allowed : (g : AnyG) (ctx : Ctx) (active : Map) (seed : List ℕ) (place seat : ℕ) → seat < 4 → HeapHas g → (ctx.over ≡ None → automatic (any_rules Countdown) (table_of (at g ctx active seed place)) ≡ None) → AllByRecursion (Allowed (any_rules Countdown) (all_calm Countdown) (at g ctx active seed place) seat) ((any_rules Countdown).options g ctx seat)
heap_allowed (OfCountdown h) ctx active seed place seat low taken rests =
    let one = Allowed (any_rules Countdown) (all_calm Countdown) (at (OfCountdown h) ctx active seed place) seat in
    let words = words_from seed place in
    offered_by one ctx seat (countdown.offers h seat) (λ on mays. all_mapped (Takes h seat words) one (countdown.offers h seat)
    (λ offer made. (
      record { goes_on = on; active = mays; has = base_has countdown.sheet ctx seat offer.0 mays (λ stage. plain_moves countdown.sheet ctx.phase stage refl refl) (two_have offer.0 made.0) },
      quiet_accepted (any_rules Countdown) (all_calm Countdown) (at (OfCountdown h) ctx active seed place) seat offer.0 offer.1 (lifted_quiet OfCountdown (countdown.play h seat offer.0 offer.1 words) made.1),
    ))
    (takes_made h seat words low (some_left h (nat_eq h.left 0) refl (no_end (if nat_eq h.left 0 then option_map Winner h.last else None) _ (rests on)) taken) (some_words seed place)))
heap_allowed g ctx active seed place seat low taken rests = tt

-- ---- Pig

abbrev pub PointsHave : ℕ → ℕ → AnyG → Type 0
PointsHave seats n (OfPig p) = HasTotals seats n p
PointsHave seats n _ = Unit {0}

endless : (ctx : Ctx) → (turn_row pig.sheet ctx).max_moves ≡ None
endless ctx = ap (λ (row : TurnRow). row.max_moves) (one_row pig.sheet ctx refl)

pub points_allowed : (seats n : ℕ) (g : AnyG) (ctx : Ctx) (active : Map) (seed : List ℕ) (place seat : ℕ) → seats ≤ 4 → n ≤ 4096 → seat < seats → PointsHave seats n g → AllByRecursion (Allowed (any_rules Pig) (all_calm Pig) (at g ctx active seed place) seat) ((any_rules Pig).options g ctx seat)
points_allowed seats n (OfPig p) ctx active seed place seat few most low has =
    let one = Allowed (any_rules Pig) (all_calm Pig) (at (OfPig p) ctx active seed place) seat in
    let words = words_from seed place in
    let t = has_total seats n p seat few low most has in
    offered_by one ctx seat (pig.offers p seat) (λ on mays. all_mapped (Rolls p seat words) one (pig.offers p seat)
    (λ offer made. (
      record { goes_on = on; active = mays; has = base_has pig.sheet ctx seat offer.0 mays (λ stage. plain_moves pig.sheet ctx.phase stage refl refl) (two_have offer.0 made.0) },
      made_accepted (any_rules Pig) (all_calm Pig) (at (OfPig p) ctx active seed place) seat offer.0 offer.1 endless (lifted_made OfPig (pig.play p seat offer.0 offer.1 words) made.1),
    ))
    (rolls_made p seat t.total words t.its t.pot t.sum (some_words seed place) (are_words seed place)))
points_allowed seats n g ctx active seed place seat few most low has = tt

-- ---- High Hand

phase_has : (phase : ℕ) (stage : Option ℕ) → phase < 2 → Has phase (moves_at high_hand_sheet (Some phase) stage)
phase_has zero None low = refl
phase_has zero (Some stage) low = refl
phase_has (suc zero) None low = refl
phase_has (suc zero) (Some stage) low = refl
phase_has (suc (suc phase)) stage low = absurd (omega arith)

same_cards : (c d : Cards) → OfHighHand c ≡ OfHighHand d → d ≡ c
same_cards c d is = cc

module _ (deck : Option Dealt) (seats : ℕ) where
  first_can : (c : Cards) (ctx : Ctx) (active : Map) (seed : List ℕ) (place seat : ℕ) → seat < seats → Deals deck seats (table_of (at (OfHighHand c) ctx active seed place)) → CanDraw c seat
  first_can c ctx active seed place seat low d =
      let moves : ctx.moves ≤ 1 = d.moves in
      let pos : ctx.pos < length ctx.order = d.pos in
      let order : length ctx.order ≤ 4 = d.order in
      can_draw seats (2 * ctx.pos + ctx.moves) c seat (omega arith) low (subst (IsDeal seats (2 * ctx.pos + ctx.moves)) (same_cards c d.cards d.its) d.deal)

  in_phase : (c : Cards) (ctx : Ctx) (active : Map) (seed : List ℕ) (place seat : ℕ) (phase : Option ℕ) → ctx.phase ≡ phase → seats ≤ 4 → seat < seats → ctx.over ≡ None → may ctx seat ≡ true → DealsFirst deck seats (table_of (at (OfHighHand c) ctx active seed place))
      → AllByRecursion (Allowed (any_rules (HighHand deck)) (all_calm (HighHand deck)) (at (OfHighHand c) ctx active seed place) seat) (card_offers c seat phase)
  in_phase c ctx active seed place seat None is few low on mays deals = tt
  in_phase c ctx active seed place seat (Some phase) is few low on mays deals =
      let one = Allowed (any_rules (HighHand deck)) (all_calm (HighHand deck)) (at (OfHighHand c) ctx active seed place) seat in
      let words = words_from seed place in
      let four : seat < 4 = omega arith in
      all_mapped (Plays c seat phase words) one (card_offers c seat (Some phase))
      (λ offer made. (
        record {
          goes_on = on;
          active = mays;
          has = moves_by high_hand_sheet ctx.phase ctx.active ctx.current seat (Has offer.0) mays (λ stage.
              subst (λ (id : ℕ). Has id (moves_at high_hand_sheet ctx.phase stage)) (sym made.0) (subst (λ (o : Option ℕ). Has phase (moves_at high_hand_sheet o stage)) (sym is) (phase_has phase stage made.1)));
        },
        quiet_accepted (any_rules (HighHand deck)) (all_calm (HighHand deck)) (at (OfHighHand c) ctx active seed place) seat offer.0 offer.1 (lifted_quiet OfHighHand (card_move c seat offer.0 offer.1 words) made.2),
      ))
      (cards_made c seat phase words four (λ zeroth. first_can c ctx active seed place seat low (deals on (is ∙ ap Some zeroth))))

  pub cards_allowed : (g : AnyG) (ctx : Ctx) (active : Map) (seed : List ℕ) (place seat : ℕ) → seats ≤ 4 → seat < seats → DealsFirst deck seats (table_of (at g ctx active seed place)) → AllByRecursion (Allowed (any_rules (HighHand deck)) (all_calm (HighHand deck)) (at g ctx active seed place) seat) ((any_rules (HighHand deck)).options g ctx seat)
  cards_allowed (OfHighHand c) ctx active seed place seat few low deals =
      offered_by (Allowed (any_rules (HighHand deck)) (all_calm (HighHand deck)) (at (OfHighHand c) ctx active seed place) seat) ctx seat (card_offers c seat ctx.phase) (λ on mays. in_phase c ctx active seed place seat ctx.phase refl few low on mays deals)
  cards_allowed g ctx active seed place seat few low deals = tt

-- ---- Blind Bid and Captions

bid_stages : (stage : Option ℕ) → stage_moves bid_sheet stage ≡ None
bid_stages None = refl
bid_stages (Some zero) = refl
bid_stages (Some (suc stage)) = refl

pub bids_allowed : (g : AnyG) (ctx : Ctx) (active : Map) (seed : List ℕ) (place seat : ℕ) → IsTrue ((any_rules BlindBid).own g) → AllByRecursion (Allowed (any_rules BlindBid) (all_calm BlindBid) (at g ctx active seed place) seat) ((any_rules BlindBid).options g ctx seat)
bids_allowed (OfBlindBid b) ctx active seed place seat own =
    let one = Allowed (any_rules BlindBid) (all_calm BlindBid) (at (OfBlindBid b) ctx active seed place) seat in
    let words = words_from seed place in
    offered_by one ctx seat (bid_offers b seat) (λ on mays. all_mapped (Bid b seat words) one (bid_offers b seat)
    (λ offer made. (
      record { goes_on = on; active = mays; has = base_has bid_sheet ctx seat offer.0 mays (λ stage. base_moves bid_sheet ctx.phase stage refl (bid_stages stage)) (two_have offer.0 made.0) },
      quiet_accepted (any_rules BlindBid) (all_calm BlindBid) (at (OfBlindBid b) ctx active seed place) seat offer.0 offer.1 (lifted_quiet OfBlindBid (bid_move b seat offer.0 offer.1 words) made.1),
    ))
    (bids_made b seat words own))
bids_allowed g ctx active seed place seat own = tt

caption_stages : (stage : Option ℕ) → stage_moves caption_sheet stage ≡ None
caption_stages None = refl
caption_stages (Some zero) = refl
caption_stages (Some (suc stage)) = refl

pub texts_allowed : (g : AnyG) (ctx : Ctx) (active : Map) (seed : List ℕ) (place seat : ℕ) → IsTrue ((any_rules Captions).own g) → AllByRecursion (Allowed (any_rules Captions) (all_calm Captions) (at g ctx active seed place) seat) ((any_rules Captions).options g ctx seat)
texts_allowed (OfCaptions t) ctx active seed place seat own =
    let one = Allowed (any_rules Captions) (all_calm Captions) (at (OfCaptions t) ctx active seed place) seat in
    let words = words_from seed place in
    offered_by one ctx seat (caption_offers t seat) (λ on mays. all_mapped (Writes t seat words) one (caption_offers t seat)
    (λ offer made. (
      record { goes_on = on; active = mays; has = base_has caption_sheet ctx seat offer.0 mays (λ stage. base_moves caption_sheet ctx.phase stage refl (caption_stages stage)) (one_has offer.0 made.0) },
      quiet_accepted (any_rules Captions) (all_calm Captions) (at (OfCaptions t) ctx active seed place) seat offer.0 offer.1 (lifted_quiet OfCaptions (write t seat offer.1 words) made.1),
    ))
    (texts_made t seat words own))
texts_allowed g ctx active seed place seat own = tt
