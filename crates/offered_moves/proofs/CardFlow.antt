-- A High Hand keeps its deal as long as seats draw: each draws twice, the last draw of a seat ends its turn, and that of the last seat the phase.
use Rattle.std.specs.Prelude.{◌≡◌, ◌==◌, ◌<◌, ◌≤◌, ◌+◌, ◌*◌, ℕ, zero, suc, Bool, true, false, ◌||◌, if◌then◌else◌, nat_eq, length, List, [], ◌∷◌, Option, Some, None, Ok, slice_index, refl}
use Rattle.std.specs.List.{list_any}
use Rattle.std.proofs.Common.{◌∙◌, ap, sym, subst, arith}
use Rattle.std.proofs.lemmas.Bool.{false≢true, eqb-true}
use Rattle.std.proofs.lemmas.List.FromFn.{length-range_with_len}
use Rattle.any_game.specs.AnyRules.{any_rules}
use Rattle.any_game.specs.GameKind.{HighHand}
use Rattle.any_game.specs.Lifted.{lifted_deed}
use Rattle.any_game.specs.declared.any_g.AnyG.{AnyG}
use Rattle.any_game.specs.declared.any_g.AnyG.TheVariants.{HighHand as OfHighHand}
use Rattle.card_games.specs.HighHand.{Cards, after_turn, card_move, high_hand_sheet, set_up}
use Rattle.card_games.specs.declared.dealt.Dealt.{Dealt}
use Rattle.game_sheet.specs.declared.act.Act.{Act}
use Rattle.game_sheet.specs.declared.act.Act.TheVariants.{Move, Event as Asks, Undo, Redo}
use Rattle.game_sheet.specs.declared.act.Event.{Event}
use Rattle.game_sheet.specs.declared.act.Event.TheVariants.{EndTurn, EndPhase, SetPhase, EndStage, SetStage, SetActive, EndGame}
use Rattle.game_sheet.specs.declared.act.EventKind.TheVariants as kind
use Rattle.game_sheet.specs.declared.act.Outcome.{Outcome}
use Rattle.game_sheet.specs.declared.args.Arg.{Arg}
use Rattle.game_sheet.specs.declared.ctx.Ctx.{Ctx}
use Rattle.game_sheet.specs.declared.refusal.GameRule.TheVariants.{InvalidMove}
use Rattle.game_trait.specs.Deed.{Barred, Deed, Done, GaveUp, Invalid, Lack, Lacks}
use Rattle.phase_flow.specs.Action as action
use Rattle.phase_flow.specs.Flow.{begin, moved, run_event, set_up as begun_by}
use Rattle.phase_flow.specs.Reached.{Reached, reached, table_of}
use Rattle.phase_flow.specs.Rows.{phase_after}
use Rattle.phase_flow.specs.Settle.{pass_or_end, settle}
use Rattle.phase_flow.specs.Step.{At, Ends, Step, carry_on}
use Rattle.phase_flow.specs.Turns.{phase_entered}
use Rattle.phase_flow.specs.declared.table.Table.{Table}
use Rattle.stage_map.specs.Active.{Map, none}
use Rattle.stage_map.specs.Parts.{may_on}
use Rattle.turn_order.specs.PlayOrder.{all_seats}
use Rattle.offered_moves.specs.Admitted.{IsAdmitted, has_act, is_of_kind}
use Rattle.offered_moves.proofs.CardMatches.{HasDeck, IsDeal, QuietlyMakes, deal_begins, first_move_makes, move_quiet, turn_deal}
use Rattle.offered_moves.proofs.Holding.{AreKept, Gives, IsPlain, Plays, Rests, Suits, acted_rests, carry_rests, entered_holds, settle_rests}
use Rattle.offered_moves.proofs.Lifting.{all_calm}

same_table : {g h : AnyG} {m n : Map} {rows shown : Option (List (ℕ × Option ℕ))} {over done : Option Outcome} {phase in_phase : Option ℕ} {count turn current pos moves : ℕ} {order : List ℕ} → g ≡ h → m ≡ n → rows ≡ shown → over ≡ done → phase ≡ in_phase
    → let t : Table AnyG = record { g = g; ctx = record { seats = count; turn = turn; current = current; order = order; pos = pos; phase = phase; active = rows; moves = moves; over = over }; active = m } in
    let u : Table AnyG = record { g = h; ctx = record { seats = count; turn = turn; current = current; order = order; pos = pos; phase = in_phase; active = shown; moves = moves; over = done }; active = n } in t ≡ u
same_table g m r o p = cc

above : (n : ℕ) → nat_eq (suc n) 0 ≡ false
above n = grind arith

module _ (deck : Option Dealt) (seats : ℕ) where
  -- a table in the first phase
  pub record Deals (t : Table AnyG) : Type 0 where
    pub cards : Cards
    pub its : t.g ≡ OfHighHand cards
    pub map : t.active ≡ none
    pub active : t.ctx.active ≡ None
    pub moves : t.ctx.moves ≤ 1
    pub pos : t.ctx.pos < length t.ctx.order
    pub order : length t.ctx.order ≤ 4
    pub deal : IsDeal seats (2 * t.ctx.pos + t.ctx.moves) cards

  abbrev pub DealsFirst : Table AnyG → Type 0
  DealsFirst t = t.ctx.over ≡ None → t.ctx.phase ≡ Some 0 → Deals t

  abbrev StepDeals : Step AnyG → Type 0
  StepDeals (At t words tasks after) = DealsFirst t
  StepDeals (Ends rule) = Unit {0}

  -- ---- no later phase is the first

  abbrev IsLater : AnyG → ℕ → Option ℕ → Type 0
  IsLater g count None = Unit {0}
  IsLater g count (Some phase) = nat_eq phase 0 ≡ false

  same_phase : {E : Type 0} (ctx : Ctx) (deed : Deed AnyG E) → ((g : AnyG) → IsLater g ctx.seats ctx.phase) → Gives (any_rules (HighHand deck)) (all_calm (HighHand deck)) IsLater ctx deed
  same_phase ctx (Done g left queued) is = is g
  same_phase ctx (GaveUp why) is = tt

  any_state : (g : AnyG) (count : ℕ) (phase : Option ℕ) → IsLater g count phase → (h : AnyG) → IsLater h count phase
  any_state g count None is h = tt
  any_state g count (Some phase) is h = is

  next_later : (phase : ℕ) (g : AnyG) (count : ℕ) → nat_eq phase 0 ≡ false → IsLater g count (phase_after high_hand_sheet phase)
  next_later zero g count is = refl
  next_later (suc zero) g count is = tt
  next_later (suc (suc phase)) g count is = tt

  later_kept : AreKept (any_rules (HighHand deck)) (all_calm (HighHand deck)) IsLater
  later_kept = record {
    on_move = λ g ctx seat words is. same_phase ctx ((any_rules (HighHand deck)).on_move g ctx seat words) (any_state g ctx.seats ctx.phase is);
    turn_begin = λ g ctx words is. same_phase ctx ((any_rules (HighHand deck)).turn_begin g ctx words) (any_state g ctx.seats ctx.phase is);
    turn_end = λ g ctx words is. same_phase ctx ((any_rules (HighHand deck)).turn_end g ctx words) (any_state g ctx.seats ctx.phase is);
    phase_begin = λ g ctx phase words is. same_phase ctx ((any_rules (HighHand deck)).phase_begin g ctx phase words) (any_state g ctx.seats ctx.phase is);
    phase_end = λ g ctx phase words is. same_phase ctx ((any_rules (HighHand deck)).phase_end g ctx phase words) (any_state g ctx.seats ctx.phase is);
    game_end = λ g ctx words is. same_phase ctx ((any_rules (HighHand deck)).game_end g ctx words) (any_state g ctx.seats ctx.phase is);
    next = λ g count phase is. next_later phase g count is;
  }

  not_first : (g : AnyG) (count : ℕ) (phase : Option ℕ) → IsLater g count phase → phase ≡ Some 0 → ⊥
  not_first g count None is first = cc
  not_first g count (Some phase) is first = let zeroth : phase ≡ 0 = cc in false≢true (sym is ∙ ap (λ n. nat_eq n 0) zeroth)

  later_deals : (s : Step AnyG) → Rests (any_rules (HighHand deck)) (all_calm (HighHand deck)) IsLater s → StepDeals s
  later_deals (At t words tasks after) rests = λ on first. absurd (not_first t.g t.ctx.seats t.ctx.phase rests.0 first)
  later_deals (Ends rule) rests = tt

  -- ---- a draw

  abbrev table : Cards → ℕ → ℕ → ℕ → List ℕ → ℕ → ℕ → Table AnyG
  table c count turn current order pos moves = record {
    g = OfHighHand c;
    ctx = record { seats = count; turn = turn; current = current; order = order; pos = pos; phase = Some 0; active = None; moves = moves; over = None };
    active = none;
  }

  table_deals : (c : Cards) (count turn current : ℕ) (order : List ℕ) (pos moves : ℕ) → moves ≤ 1 → pos < length order → length order ≤ 4 → IsDeal seats (2 * pos + moves) c → DealsFirst (table c count turn current order pos moves)
  table_deals c count turn current order pos moves few low most deal = λ on first. record { cards = c; its = refl; map = refl; active = refl; moves = few; pos = low; order = most; deal = deal }

  one_drawn : (c : Cards) (count turn current : ℕ) (order : List ℕ) (pos : ℕ) (words : List ℕ) → DealsFirst (table c count turn current order pos 1) → StepDeals (settle (any_rules (HighHand deck)) 64 (table c count turn current order pos 1) words [] false)
  unfolding settle
  one_drawn c count turn current order pos words deals = deals

  -- the next seat draws, or the phase ends
  turn_or_phase : (c : Cards) (count turn current : ℕ) (order : List ℕ) (pos : ℕ) (words : List ℕ) (last : Bool) → (pos + 1 == length order) ≡ last → pos < length order → length order ≤ 4 → IsDeal seats (2 * pos + 2) c
      → StepDeals (carry_on (pass_or_end (any_rules (HighHand deck)) (if last then None else Some (pos + 1)) (table c count turn current order pos 2) words []) (settle (any_rules (HighHand deck)) 63))
  unfolding settle
  turn_or_phase c count turn current order pos words false is low most deal =
      let more : pos + 1 < length order = grind (arith, is, low) in
      table_deals (after_turn c) count (turn + 1) (slice_index order (pos + 1)) order (pos + 1) 0 (omega arith) more most (turn_deal seats (2 * pos + 2) (2 * (pos + 1) + 0) c (omega arith) deal)
  turn_or_phase c count turn current order pos words true is low most deal =
      let ended : Table AnyG = table (after_turn c) count turn current order pos 2 in
      let entered : Step AnyG = phase_entered (any_rules (HighHand deck)) false (Some 1) ended words [] in
      later_deals (carry_on entered (settle (any_rules (HighHand deck)) 62))
      (carry_rests (any_rules (HighHand deck)) (all_calm (HighHand deck)) IsLater entered (settle (any_rules (HighHand deck)) 62)
      (entered_holds (any_rules (HighHand deck)) (all_calm (HighHand deck)) IsLater later_kept false (Some 1) ended words [] refl tt)
      (settle_rests (any_rules (HighHand deck)) (all_calm (HighHand deck)) IsLater later_kept 62))

  two_drawn : (c : Cards) (count turn current : ℕ) (order : List ℕ) (pos : ℕ) (words : List ℕ) → pos < length order → length order ≤ 4 → IsDeal seats (2 * pos + 2) c → StepDeals (settle (any_rules (HighHand deck)) 64 (table c count turn current order pos 2) words [] false)
  unfolding settle
  two_drawn c count turn current order pos words low most deal = turn_or_phase c count turn current order pos words (pos + 1 == length order) refl low most deal

  recount : (c : Cards) (n m : ℕ) → n ≡ m → IsDeal seats n c → IsDeal seats m c
  recount c n m same deal = subst (λ k. IsDeal seats k c) same deal

  drawn : (c : Cards) (count turn current : ℕ) (order : List ℕ) (pos moves : ℕ) (words : List ℕ) → moves ≤ 1 → pos < length order → length order ≤ 4 → IsDeal seats (2 * pos + moves + 1) c → StepDeals (settle (any_rules (HighHand deck)) 64 (table c count turn current order pos (moves + 1)) words [] false)
  drawn c count turn current order pos zero words few low most deal = one_drawn c count turn current order pos words (table_deals c count turn current order pos 1 (omega arith) low most (recount c (2 * pos + 0 + 1) (2 * pos + 1) (omega arith) deal))
  drawn c count turn current order pos (suc zero) words few low most deal = two_drawn c count turn current order pos words low most (recount c (2 * pos + 1 + 1) (2 * pos + 2) (omega arith) deal)
  drawn c count turn current order pos (suc (suc moves)) words few low most deal = absurd (omega arith)

  moved_deals : (c : Cards) (count turn current : ℕ) (order : List ℕ) (pos moves seat : ℕ) (words : List ℕ) → (seat == current) ≡ true → moves ≤ 1 → pos < length order → length order ≤ 4 → IsDeal seats (2 * pos + moves + 1) c
      → StepDeals (moved (any_rules (HighHand deck)) seat true (table c count turn current order pos moves) words [])
  unfolding moved
  moved_deals c count turn current order pos moves seat words its few low most deal =
      subst (λ is. StepDeals (settle (any_rules (HighHand deck)) 64 (table c count turn current order pos (if is then moves + 1 else moves)) words [] false)) (sym its)
      (drawn c count turn current order pos moves words few low most deal)

  played_deals : (c : Cards) (count turn current : ℕ) (order : List ℕ) (pos moves seat : ℕ) (deed : Deed Cards Barred) → (seat == current) ≡ true → moves ≤ 1 → pos < length order → length order ≤ 4 → QuietlyMakes (IsDeal seats (2 * pos + moves + 1)) deed
      → StepDeals (action.played (any_rules (HighHand deck)) (table c count turn current order pos moves) seat true (lifted_deed OfHighHand deed))
  played_deals c count turn current order pos moves seat (Done g left []) its few low most made = moved_deals g count turn current order pos moves seat left its few low most made
  played_deals c count turn current order pos moves seat (Done g left (event ∷ queued)) its few low most made = absurd made
  played_deals c count turn current order pos moves seat (GaveUp Invalid) its few low most made = tt
  played_deals c count turn current order pos moves seat (GaveUp (Lacks lack)) its few low most made = tt

  -- ---- an action in the first phase

  either_so : (is : Bool) (id : ℕ) → (0 == id) ≡ is → (is || false) ≡ true → 0 ≡ id
  either_so true id same has = eqb-true 0 id same
  either_so false id same has = absurd (false≢true has)

  draws_only : (current : Bool) (id : ℕ) → list_any (λ m. m == id) (if current then 0 ∷ [] else []) ≡ true → 0 ≡ id
  draws_only true id has = either_so (0 == id) id refl has
  draws_only false id has = absurd (false≢true has)

  too_early : (t : Table AnyG) (invalid : Bool) (step : Step AnyG) → StepDeals step → StepDeals (if invalid then Ends InvalidMove else step)
  too_early t true step is = tt
  too_early t false step is = is

  -- no turn with at most one draw is ended by a player
  ends_early : (c : Cards) (count turn current : ℕ) (order : List ℕ) (pos moves seat : ℕ) (to : Option ℕ) (words : List ℕ) → moves ≤ 1 → StepDeals (run_event (any_rules (HighHand deck)) seat (EndTurn to) (table c count turn current order pos moves) words)
  unfolding run_event
  ends_early c count turn current order pos zero seat to words few = tt
  ends_early c count turn current order pos (suc zero) seat to words few = tt
  ends_early c count turn current order pos (suc (suc moves)) seat to words few = absurd (omega arith)

  asked_deals : (c : Cards) (count turn current : ℕ) (order : List ℕ) (pos moves seat : ℕ) (event : Event) (words : List ℕ) → moves ≤ 1 → list_any (is_of_kind event) (kind.EndTurn ∷ []) ≡ true → StepDeals (action.asked (any_rules (HighHand deck)) (table c count turn current order pos moves) seat event words)
  asked_deals c count turn current order pos moves seat (EndTurn to) words few may =
      let t = table c count turn current order pos moves in
      too_early t (action.is_invalid seat (EndTurn to) t) (run_event (any_rules (HighHand deck)) seat (EndTurn to) t words) (ends_early c count turn current order pos moves seat to words few)
  asked_deals c count turn current order pos moves seat EndPhase words few may = absurd (false≢true may)
  asked_deals c count turn current order pos moves seat (SetPhase to) words few may = absurd (false≢true may)
  asked_deals c count turn current order pos moves seat EndStage words few may = absurd (false≢true may)
  asked_deals c count turn current order pos moves seat (SetStage to) words few may = absurd (false≢true may)
  asked_deals c count turn current order pos moves seat (SetActive spec) words few may = absurd (false≢true may)
  asked_deals c count turn current order pos moves seat (EndGame outcome) words few may = absurd (false≢true may)

  first_deals : (c : Cards) (count turn current : ℕ) (order : List ℕ) (pos moves seat : ℕ) (act : Act) (words : List ℕ) → moves ≤ 1 → pos < length order → length order ≤ 4 → IsDeal seats (2 * pos + moves) c
      → (seat == current) ≡ true → has_act high_hand_sheet (table c count turn current order pos moves).ctx seat act ≡ true → StepDeals (action.acted (any_rules (HighHand deck)) (table c count turn current order pos moves) seat act words)
  first_deals c count turn current order pos moves seat (Move id args) words few low most deal its has =
      let t = table c count turn current order pos moves in
      subst (λ i. StepDeals (action.acted (any_rules (HighHand deck)) t seat (Move i args) words)) (draws_only (seat == current) id has)
      (played_deals c count turn current order pos moves seat (card_move c seat 0 args words) its few low most (first_move_makes seats (2 * pos + moves) c seat args words deal))
  first_deals c count turn current order pos moves seat (Asks event) words few low most deal its has = asked_deals c count turn current order pos moves seat event words few has
  first_deals c count turn current order pos moves seat Undo words few low most deal its has = tt
  first_deals c count turn current order pos moves seat Redo words few low most deal its has = tt

  as_table : (t : Table AnyG) (d : Deals t) → t.ctx.over ≡ None → t.ctx.phase ≡ Some 0 → table d.cards t.ctx.seats t.ctx.turn t.ctx.current t.ctx.order t.ctx.pos t.ctx.moves ≡ t
  as_table t d on first = same_table (sym d.its) (sym d.map) (sym d.active) (sym on) (sym first)

  -- ---- an action in a later phase

  plain_turn : (event : Event) → list_any (is_of_kind event) (kind.EndTurn ∷ []) ≡ true → IsPlain event
  plain_turn (EndTurn to) may = tt
  plain_turn EndPhase may = tt
  plain_turn (SetPhase to) may = absurd (false≢true may)
  plain_turn EndStage may = tt
  plain_turn (SetStage to) may = tt
  plain_turn (SetActive spec) may = tt
  plain_turn (EndGame outcome) may = tt

  quiet_plays : (ctx : Ctx) (deed : Deed Cards Barred) → ((g : AnyG) → IsLater g ctx.seats ctx.phase) → QuietlyMakes (λ c. Unit {0}) deed → Plays (any_rules (HighHand deck)) (all_calm (HighHand deck)) IsLater later_kept ctx (lifted_deed OfHighHand deed)
  quiet_plays ctx (Done c left []) is quiet = (is (OfHighHand c), tt)
  quiet_plays ctx (Done c left (event ∷ queued)) is quiet = absurd quiet
  quiet_plays ctx (GaveUp why) is quiet = tt

  any_plays : (g : AnyG) (ctx : Ctx) (seat id : ℕ) (args : List Arg) (words : List ℕ) → ((h : AnyG) → IsLater h ctx.seats ctx.phase) → Plays (any_rules (HighHand deck)) (all_calm (HighHand deck)) IsLater later_kept ctx ((any_rules (HighHand deck)).play g ctx seat id args words)
  any_plays (OfHighHand c) ctx seat id args words is = quiet_plays ctx (card_move c seat id args words) is (move_quiet c seat id args words)
  any_plays g ctx seat id args words is = tt

  later_suits : (t : Table AnyG) (seat : ℕ) (act : Act) (words : List ℕ) → ((h : AnyG) → IsLater h t.ctx.seats t.ctx.phase) → has_act high_hand_sheet t.ctx seat act ≡ true → Suits (any_rules (HighHand deck)) (all_calm (HighHand deck)) IsLater later_kept t seat words act
  later_suits t seat (Move id args) words is has = any_plays t.g t.ctx seat id args words is
  later_suits t seat (Asks event) words is has = (is t.g, plain_turn event has)
  later_suits t seat Undo words is has = tt
  later_suits t seat Redo words is has = tt

  later_acts : (t : Table AnyG) (seat : ℕ) (act : Act) (words : List ℕ) → ((h : AnyG) → IsLater h t.ctx.seats t.ctx.phase) → has_act high_hand_sheet t.ctx seat act ≡ true → StepDeals (action.acted (any_rules (HighHand deck)) t seat act words)
  later_acts t seat act words is has =
      later_deals (action.acted (any_rules (HighHand deck)) t seat act words) (acted_rests (any_rules (HighHand deck)) (all_calm (HighHand deck)) IsLater later_kept seat act t words (later_suits t seat act words is has))

  acted_deals : (t : Table AnyG) (seat : ℕ) (act : Act) (words : List ℕ) (phase : Option ℕ) → t.ctx.phase ≡ phase → DealsFirst t → IsAdmitted high_hand_sheet t.ctx seat act → StepDeals (action.acted (any_rules (HighHand deck)) t seat act words)
  acted_deals t seat act words None is deals admitted = later_acts t seat act words (λ h. subst (λ (o : Option ℕ). IsLater h t.ctx.seats o) (sym is) tt) admitted.has
  acted_deals t seat act words (Some (suc phase)) is deals admitted = later_acts t seat act words (λ h. subst (λ (o : Option ℕ). IsLater h t.ctx.seats o) (sym is) (above phase)) admitted.has
  acted_deals t seat act words (Some zero) is deals admitted =
      let d = deals admitted.goes_on is in
      let first = table d.cards t.ctx.seats t.ctx.turn t.ctx.current t.ctx.order t.ctx.pos t.ctx.moves in
      let same : first ≡ t = as_table t d admitted.goes_on is in
      let its : (seat == t.ctx.current) ≡ true = ap (λ (rows : Option (List (ℕ × Option ℕ))). may_on rows t.ctx.current seat) (sym d.active) ∙ admitted.active in
      let has : has_act high_hand_sheet first.ctx seat act ≡ true = ap (λ (u : Table AnyG). has_act high_hand_sheet u.ctx seat act) same ∙ admitted.has in
      subst (λ (u : Table AnyG). StepDeals (action.acted (any_rules (HighHand deck)) u seat act words)) same
      (first_deals d.cards t.ctx.seats t.ctx.turn t.ctx.current t.ctx.order t.ctx.pos t.ctx.moves seat act words d.moves d.pos d.order d.deal its has)

  come_deals : (place : ℕ) (seed : List ℕ) (s : Step AnyG) (r : Reached AnyG) → StepDeals s → action.come_to seed place s ≡ Ok r → DealsFirst (table_of r)
  come_deals place seed (At t left tasks after) r h e =
      let same : reached seed (action.place_after place left) t ≡ r = cc in
      subst (λ x. DealsFirst (table_of x)) same h
  come_deals place seed (Ends rule) r h e = absurd (cc)

  pub once_deals : (now next : Reached AnyG) (seat : ℕ) (act : Act) → DealsFirst (table_of now) → IsAdmitted high_hand_sheet now.ctx seat act → action.once (any_rules (HighHand deck)) now seat act ≡ Ok next → DealsFirst (table_of next)
  unfolding action.once
  once_deals now next seat act deals admitted e =
      let left = action.words_from now.seed now.place in
      come_deals now.place now.seed (action.acted (any_rules (HighHand deck)) (table_of now) seat act left) next (acted_deals (table_of now) seat act left now.ctx.phase refl deals admitted) e

  -- ---- the beginning

  opens : (deed : Deed Cards Lack) → 0 < seats → seats ≤ 4 → QuietlyMakes (IsDeal seats 0) deed → StepDeals (begun_by (any_rules (HighHand deck)) seats (lifted_deed OfHighHand deed))
  unfolding settle
  opens (Done c left []) some few deal =
      let order = all_seats seats in
      let count : length order ≡ seats = length-range_with_len 0 seats in
      table_deals c seats 1 (slice_index order 0) order 0 0 (omega arith) (omega arith) (omega arith) deal
  opens (Done c left (event ∷ queued)) some few deal = absurd deal
  opens (GaveUp why) some few deal = tt

  begins : (words : List ℕ) → HasDeck deck → 0 < seats → seats ≤ 4 → StepDeals (begin (any_rules (HighHand deck)) seats words)
  unfolding begin
  begins words has some few = opens (set_up deck seats words) some few (deal_begins deck seats words has)

  pub begins_dealing : (seed : List ℕ) (first : Reached AnyG) → HasDeck deck → 0 < seats → seats ≤ 4 → action.begin (any_rules (HighHand deck)) seats seed ≡ Ok first → DealsFirst (table_of first)
  unfolding action.begin
  begins_dealing seed first has some few e = come_deals 0 seed (begin (any_rules (HighHand deck)) seats (action.words_from seed 0)) first (begins (action.words_from seed 0) has some few) e
