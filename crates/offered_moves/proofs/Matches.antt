-- What holds of every match of each of the games, and that the moves that it offers where it stands are allowed.
use Rattle.std.specs.Prelude.{◌≡◌, ◌<◌, ◌≤◌, ℕ, suc, List, [], Option, Some, None, Ok, IsTrue, refl}
use Rattle.std.specs.List.{AllByRecursion}
use Rattle.std.proofs.Common.{arith}
use Rattle.any_game.specs.AnyRules.{any_in_sheet, any_lawful, any_rules}
use Rattle.any_game.specs.GameKind.{GameKind, TicTacToe, Countdown, Pig, HighHand, BlindBid, Captions}
use Rattle.any_game.specs.Lifted.{lifted_deed}
use Rattle.any_game.specs.Values.{are_points, as_heap, as_points, is_heap}
use Rattle.any_game.specs.declared.any_g.AnyG.{AnyG}
use Rattle.any_game.specs.declared.any_g.AnyG.TheVariants.{Countdown as OfCountdown, Pig as OfPig}
use Rattle.card_games.specs.declared.dealt.Dealt.{Dealt}
use Rattle.game_sheet.specs.declared.act.Act.{Act}
use Rattle.game_sheet.specs.declared.act.Act.TheVariants.{Move, Event as Asks, Undo, Redo}
use Rattle.game_sheet.specs.declared.args.Arg.{Arg}
use Rattle.game_sheet.specs.declared.ctx.Ctx.{Ctx}
use Rattle.game_trait.specs.Deed.{Barred, Deed, Done, GaveUp, Lack}
use Rattle.game_trait.specs.InSheet.{ActInSheet}
use Rattle.game_trait.specs.Lawful.{GivesOwn}
use Rattle.game_trait.specs.Queues.{KeepsToSheet, QueuesInSheet}
use Rattle.game_trait.specs.Rules.{Rules}
use Rattle.phase_flow.specs.Action.{begin, once, words_from}
use Rattle.phase_flow.specs.Reached.{Reached, table_of}
use Rattle.phase_flow.specs.declared.table.Table.{Table}
use Rattle.reducer.specs.Fold.{fold}
use Rattle.table_states.specs.Countdown.{countdown}
use Rattle.table_states.specs.Pig.{move_with, pig, total_of}
use Rattle.table_states.specs.Points.{Points}
use Rattle.table_states.specs.declared.heap.Heap.{Heap}
use Rattle.table_states.specs.StateForms.{heap_form, points_form}
use Rattle.offered_moves.specs.OfferedLaw.{HasCards, IsAllowed, OffersAreAllowed}
use Rattle.offered_moves.proofs.Allowed.{HeapHas, PointsHave, bids_allowed, board_allowed, cards_allowed, heap_allowed, points_allowed, texts_allowed}
use Rattle.offered_moves.proofs.Allowing.{Allowed, all_mapped, are_words}
use Rattle.offered_moves.proofs.CardFlow.{DealsFirst, begins_dealing, once_deals}
use Rattle.offered_moves.proofs.CardMatches.{HasDeck}
use Rattle.offered_moves.proofs.Chains.{Goes, Grows, holds_now}
use Rattle.offered_moves.proofs.Ending.{IsCalm}
use Rattle.offered_moves.proofs.Holding.{AreKept, Begins, Gives, Has, IsAtRest, Plays, Suits, begins_at_rest, once_rests}
use Rattle.offered_moves.proofs.Lifting.{IsOwnAt, all_calm, all_plain, open_kept, own_gives, own_kept, plain_in_sheet}
use Rattle.offered_moves.proofs.TableMatches.{HasTotals, Makes, WasTaken, heap_begins, move_taken, points_begin, points_grow, points_make}

-- What is shown of a game: what holds of a match of so many seats after so many actions. The beginning has it, an action that breaks no rule keeps it, and
-- where it holds the moves that a seat is offered break no rule.
pub record OffersKept (kind : GameKind) (Holds : ℕ → ℕ → Reached AnyG → Type 0) : Type 0 where
  pub grows : (seats : ℕ) → Grows (Holds seats)
  pub goes : (seats : ℕ) → Goes (any_rules kind) (Holds seats)
  pub begins : (seats : ℕ) (seed : List ℕ) (first : Reached AnyG) → HasCards kind → (any_rules kind).sheet.min_seats ≤ seats → seats ≤ (any_rules kind).sheet.max_seats → begin (any_rules kind) seats seed ≡ Ok first → Holds seats 0 first
  pub allowed : (seats n seat : ℕ) (r : Reached AnyG) → seats ≤ (any_rules kind).sheet.max_seats → n ≤ 4096 → seat < seats → Holds seats n r → AllByRecursion (Allowed (any_rules kind) (all_calm kind) r seat) ((any_rules kind).options r.g r.ctx seat)

pub law_by : (kind : GameKind) (Holds : ℕ → ℕ → Reached AnyG → Type 0) → OffersKept kind Holds → OffersAreAllowed kind
law_by kind Holds kept = λ seats seed first accepted match room seat low.
    let now = fold (any_rules kind) first accepted in
    let h = holds_now (any_rules kind) (Holds seats) (kept.grows seats) (kept.goes seats) first (kept.begins seats seed first match.cards match.least match.most match.begun) accepted match.played in
    all_mapped (Allowed (any_rules kind) (all_calm kind) now seat) (λ offer. IsAllowed (any_rules kind) first accepted seat (Move offer.0 offer.1)) ((any_rules kind).options now.g now.ctx seat)
    (λ offer is. record { admitted = is.0; answer = is.1 })
    (kept.allowed seats h.0 seat now match.most (omega (arith, h.1, room)) low h.2)

-- ---- an action of a game without phases

module _ {G : Type 0} (rules : Rules G) (calm : IsCalm rules) (P : G → ℕ → Option ℕ → Type 0) (kept : AreKept rules calm P) (keeps : KeepsToSheet rules) (phases : rules.sheet.phases ≡ []) where
  gives_plays : (ctx : Ctx) (deed : Deed G Barred) → Gives rules calm P ctx deed → QueuesInSheet rules.sheet deed → Plays rules calm P kept ctx deed
  gives_plays ctx (Done g left queued) is known = (is, all_plain rules.sheet queued phases known)
  gives_plays ctx (GaveUp why) is known = tt

  suits : (t : Table G) (seat : ℕ) (act : Act) (words : List ℕ) → ActInSheet rules.sheet act → Has rules calm P t → ((id : ℕ) (args : List Arg) → Gives rules calm P t.ctx (rules.play t.g t.ctx seat id args words)) → Suits rules calm P kept t seat words act
  suits t seat (Move id args) words known has gives = gives_plays t.ctx (rules.play t.g t.ctx seat id args words) (gives id args) (keeps.play t.g t.ctx seat id args words known)
  suits t seat (Asks event) words known has gives = (has, plain_in_sheet rules.sheet event phases known)
  suits t seat Undo words known has gives = tt
  suits t seat Redo words known has gives = tt

  pub acts : (now next : Reached G) (seat : ℕ) (act : Act) → ActInSheet rules.sheet act → Has rules calm P (table_of now) → ((id : ℕ) (args : List Arg) → Gives rules calm P now.ctx (rules.play now.g now.ctx seat id args (words_from now.seed now.place)))
      → once rules now seat act ≡ Ok next → Has rules calm P (table_of next) × IsAtRest rules calm P (table_of next)
  acts now next seat act known has gives is = once_rests rules calm P kept seat act now next (suits (table_of now) seat act (words_from now.seed now.place) known has gives) is

-- ---- tic-tac-toe

board_kept : OffersKept TicTacToe (λ seats n r. Unit {0})
board_kept = record {
  grows = λ seats n r h. tt;
  goes = λ seats n now next seat act h known admitted is. tt;
  begins = λ seats seed first cards least most is. tt;
  allowed = λ seats n seat r most few low h. board_allowed r.g r.ctx r.active r.seed r.place seat (omega arith);
}

-- ---- Countdown

heaps : AreKept (any_rules Countdown) (all_calm Countdown) (λ g seats phase. HeapHas g)
heaps = open_kept OfCountdown as_heap is_heap heap_form countdown (all_calm Countdown) HeapHas

heap_gives : (ctx : Ctx) (deed : Deed Heap Barred) → Makes WasTaken deed → Gives (any_rules Countdown) (all_calm Countdown) (λ g seats phase. HeapHas g) ctx (lifted_deed OfCountdown deed)
heap_gives ctx (Done h left queued) is = is
heap_gives ctx (GaveUp why) is = tt

heap_plays : (g : AnyG) (ctx : Ctx) (seat id : ℕ) (args : List Arg) (words : List ℕ) → Gives (any_rules Countdown) (all_calm Countdown) (λ g seats phase. HeapHas g) ctx ((any_rules Countdown).play g ctx seat id args words)
heap_plays (OfCountdown h) ctx seat id args words = heap_gives ctx (countdown.play h seat id args words) (move_taken h seat id args words)
heap_plays g ctx seat id args words = tt

heap_kept : OffersKept Countdown (λ seats n r. HeapHas r.g × IsAtRest (any_rules Countdown) (all_calm Countdown) (λ g seats phase. HeapHas g) (table_of r))
heap_kept = record {
  grows = λ seats n r h. h;
  goes = λ seats n now next seat act h known admitted is.
      acts (any_rules Countdown) (all_calm Countdown) (λ g seats phase. HeapHas g) heaps (any_in_sheet Countdown) refl now next seat act known h.0 (λ id args. heap_plays now.g now.ctx seat id args (words_from now.seed now.place)) is;
  begins = λ seats seed first cards least most is. begins_at_rest (any_rules Countdown) (all_calm Countdown) (λ g seats phase. HeapHas g) heaps seats seed first (λ words. heap_begins) is;
  allowed = λ seats n seat r most few low h. heap_allowed r.g r.ctx r.active r.seed r.place seat (omega arith) h.0 h.1;
}

-- ---- Pig

module _ (seats n : ℕ) where
  points : AreKept (any_rules Pig) (all_calm Pig) (λ g count phase. PointsHave seats n g)
  points = open_kept OfPig as_points are_points points_form pig (all_calm Pig) (PointsHave seats n)

  points_gives : (ctx : Ctx) (deed : Deed Points Barred) → Makes (HasTotals seats n) deed → Gives (any_rules Pig) (all_calm Pig) (λ g count phase. PointsHave seats n g) ctx (lifted_deed OfPig deed)
  points_gives ctx (Done p left queued) is = is
  points_gives ctx (GaveUp why) is = tt

any_grow : (seats n : ℕ) (g : AnyG) → PointsHave seats n g → PointsHave seats (suc n) g
any_grow seats n (OfPig p) has = points_grow seats n p has
any_grow seats n g has = tt

points_play : (seats n : ℕ) (g : AnyG) (ctx : Ctx) (seat id : ℕ) (args : List Arg) (seed : List ℕ) (place : ℕ) → PointsHave seats n g → Gives (any_rules Pig) (all_calm Pig) (λ h count phase. PointsHave seats (suc n) h) ctx ((any_rules Pig).play g ctx seat id args (words_from seed place))
points_play seats n (OfPig p) ctx seat id args seed place has = points_gives seats (suc n) ctx (move_with p seat id args (words_from seed place) (total_of p seat)) (points_make seats n p seat id args (words_from seed place) (are_words seed place) has)
points_play seats n g ctx seat id args seed place has = tt

points_kept : OffersKept Pig (λ seats n r. PointsHave seats n r.g)
points_kept = record {
  grows = λ seats n r h. any_grow seats n r.g h;
  goes = λ seats n now next seat act h known admitted is.
      (acts (any_rules Pig) (all_calm Pig) (λ g count phase. PointsHave seats (suc n) g) (points seats (suc n)) (any_in_sheet Pig) refl now next seat act known (any_grow seats n now.g h) (λ id args. points_play seats n now.g now.ctx seat id args now.seed now.place h) is).0;
  begins = λ seats seed first cards least most is. (begins_at_rest (any_rules Pig) (all_calm Pig) (λ g count phase. PointsHave seats 0 g) (points seats 0) seats seed first (λ words. points_begin seats) is).0;
  allowed = λ seats n seat r most few low h. points_allowed seats n r.g r.ctx r.active r.seed r.place seat most few low h;
}

-- ---- High Hand

deck_of : (deck : Option Dealt) → HasCards (HighHand deck) → HasDeck deck
deck_of None has = tt
deck_of (Some dealt) has = has

cards_kept : (deck : Option Dealt) → OffersKept (HighHand deck) (λ seats n r. DealsFirst deck seats (table_of r))
cards_kept deck = record {
  grows = λ seats n r h. h;
  goes = λ seats n now next seat act h known admitted is. once_deals deck seats now next seat act h admitted is;
  begins = λ seats seed first cards least most is. begins_dealing deck seats seed first (deck_of deck cards) (omega arith) most is;
  allowed = λ seats n seat r most few low h. cards_allowed deck seats r.g r.ctx r.active r.seed r.place seat most low h;
}

-- ---- Blind Bid and Captions

module _ (kind : GameKind) (phases : (any_rules kind).sheet.phases ≡ []) where
  abbrev Own : AnyG → ℕ → Option ℕ → Type 0
  Own = IsOwnAt (any_rules kind) (all_calm kind) (any_lawful kind)

  owns : AreKept (any_rules kind) (all_calm kind) Own
  owns = own_kept (any_rules kind) (all_calm kind) (any_lawful kind)

  own_begins : (seats : ℕ) (deed : Deed AnyG Lack) → GivesOwn (any_rules kind).own deed → Begins (any_rules kind) (all_calm kind) Own owns seats deed
  own_begins seats (Done g left queued) is = is
  own_begins seats (GaveUp why) is = tt

  own_offers : ((r : Reached AnyG) (seat : ℕ) → IsTrue ((any_rules kind).own r.g) → AllByRecursion (Allowed (any_rules kind) (all_calm kind) r seat) ((any_rules kind).options r.g r.ctx seat)) → OffersKept kind (λ seats n r. IsTrue ((any_rules kind).own r.g))
  own_offers allowed = record {
    grows = λ seats n r h. h;
    goes = λ seats n now next seat act h known admitted is.
        (acts (any_rules kind) (all_calm kind) Own owns (any_in_sheet kind) phases now next seat act known h
        (λ id args. let left = words_from now.seed now.place in own_gives (any_rules kind) (all_calm kind) (any_lawful kind) now.ctx ((any_rules kind).play now.g now.ctx seat id args left) ((any_lawful kind).play now.g now.ctx seat id args left h)) is).0;
    begins = λ seats seed first cards least most is. (begins_at_rest (any_rules kind) (all_calm kind) Own owns seats seed first (λ words. own_begins seats ((any_rules kind).setup seats words) ((any_lawful kind).setup seats words least most)) is).0;
    allowed = λ seats n seat r most few low h. allowed r seat h;
  }

pub all_offers : (kind : GameKind) → OffersAreAllowed kind
all_offers TicTacToe = law_by TicTacToe (λ seats n r. Unit {0}) board_kept
all_offers Countdown = law_by Countdown (λ seats n r. HeapHas r.g × IsAtRest (any_rules Countdown) (all_calm Countdown) (λ g seats phase. HeapHas g) (table_of r)) heap_kept
all_offers Pig = law_by Pig (λ seats n r. PointsHave seats n r.g) points_kept
all_offers (HighHand deck) = law_by (HighHand deck) (λ seats n r. DealsFirst deck seats (table_of r)) (cards_kept deck)
all_offers BlindBid = law_by BlindBid (λ seats n r. IsTrue ((any_rules BlindBid).own r.g)) (own_offers BlindBid refl (λ r seat own. bids_allowed r.g r.ctx r.active r.seed r.place seat own))
all_offers Captions = law_by Captions (λ seats n r. IsTrue ((any_rules Captions).own r.g)) (own_offers Captions refl (λ r seat own. texts_allowed r.g r.ctx r.active r.seed r.place seat own))
