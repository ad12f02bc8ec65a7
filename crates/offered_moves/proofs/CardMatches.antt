-- What holds of the cards of a High Hand while seats draw: each has a hand, the cards of which and those of the deck are at most 52, and with
-- the draws that were made the deck has eight cards.
use Rattle.std.specs.Prelude.{◌≡◌, ◌<◌, ◌≤◌, ◌+◌, ◌-◌, ◌&&◌, ℕ, zero, suc, pos, Bool, true, false, if◌then◌else◌, nat_eq, nat_lt, length, replicate, swap, List, [], ◌∷◌, ◌++◌, Option, Some, None, IfSome, remove, slice_get, refl}
use Rattle.std.specs.List.{AllByRecursion, list_all}
use Rattle.std.proofs.Common.{◌∙◌, subst, arith}
use Rattle.std.proofs.lemmas.Bool.{and_parts, leb-true}
use Rattle.std.proofs.lemmas.List.{length-replicate, length-set}
use Rattle.std.proofs.lemmas.List.Edits.{length-swap}
use Rattle.card_games.specs.HighHand.{Cards, after_turn, before_draws, card_move, draw, draw_to, hand_in, hand_of, is_free, is_full, laid, lay, lay_card, lay_from, opened, scored, set_up, with_deck, with_hand}
use Rattle.card_games.specs.Pack.{are_few, is_card, pack}
use Rattle.card_games.specs.Parts.{deck_in}
use Rattle.card_games.specs.declared.cards.Hand.{Hand}
use Rattle.card_games.specs.declared.dealt.Dealt.{Dealt}
use Rattle.dice_words.specs.Dice.{die, shuffled, shuffled_from}
use Rattle.game_sheet.specs.declared.args.Arg.{Arg}
use Rattle.game_sheet.specs.declared.args.Arg.TheVariants.{Whole}
use Rattle.game_trait.specs.Deed.{Deed, Done, GaveUp, Invalid}
use Rattle.offered_moves.proofs.CardOffers.{CanDraw, one_longer}
use Rattle.offered_moves.proofs.TableMatches.{all_put}

-- what is made, if anything is, is such a state, and nothing is queued
abbrev pub QuietlyMakes : {G E : Type 0} → (G → Type 0) → Deed G E → Type 0
QuietlyMakes P (Done g left []) = P g
QuietlyMakes P (Done g left (event ∷ queued)) = ⊥
QuietlyMakes P (GaveUp why) = Unit {0}

either_makes : {G E : Type 0} (P : G → Type 0) (test : Bool) (one other : Deed G E) → QuietlyMakes P one → QuietlyMakes P other → QuietlyMakes P (if test then one else other)
either_makes P true one other p q = p
either_makes P false one other p q = q

abbrev pub HandFits : ℕ → Option Hand → Type 0
HandFits left None = ⊥
HandFits left (Some hand) = length hand.cards + left ≤ 52

-- of so many seats, after so many draws
pub record IsDeal (seats draws : ℕ) (c : Cards) : Type 0 where
  pub each : length c.players ≡ seats
  pub hands : AllByRecursion (HandFits (length (deck_in c.secret))) c.players
  pub cards : 8 ≤ length (deck_in c.secret) + draws

hand_fits : (players : List (Option Hand)) (seat left : ℕ) (hand : List ℕ) → hand_in (slice_get players seat) ≡ Some hand → AllByRecursion (HandFits left) players → length hand + left ≤ 52
hand_fits [] seat left hand is all = absurd (cc)
hand_fits (None ∷ players) zero left hand is all = absurd all.0
hand_fits (Some h ∷ players) zero left hand is all = let same : h.cards ≡ hand = cc in subst (λ (cards : List ℕ). length cards + left ≤ 52) same all.0
hand_fits (player ∷ players) (suc seat) left hand is all = hand_fits players seat left hand is all.1

one_fewer : (left : ℕ) (player : Option Hand) → HandFits (suc left) player → HandFits left player
one_fewer left None fits = fits
one_fewer left (Some hand) fits = omega (arith, fits)

all_fewer : (left : ℕ) (players : List (Option Hand)) → AllByRecursion (HandFits (suc left)) players → AllByRecursion (HandFits left) players
all_fewer left [] all = tt
all_fewer left (player ∷ players) all = (one_fewer left player all.0, all_fewer left players all.1)

drawn_deal : (seats draws : ℕ) (c : Cards) (seat : ℕ) (hand : List ℕ) (card : ℕ) (deck : List ℕ) → hand_of c seat ≡ Some hand → deck_in c.secret ≡ card ∷ deck → IsDeal seats draws c → IsDeal seats (draws + 1) (with_deck (with_hand c seat (hand ++ card ∷ [])) deck)
drawn_deal seats draws c seat hand card deck its first deal =
    let hands : AllByRecursion (HandFits (suc (length deck))) c.players = subst (λ (d : List ℕ). AllByRecursion (HandFits (length d)) c.players) first deal.hands in
    let cards : 8 ≤ suc (length deck) + draws = subst (λ (d : List ℕ). 8 ≤ length d + draws) first deal.cards in
    let few : length hand + suc (length deck) ≤ 52 = hand_fits c.players seat (suc (length deck)) hand its hands in
    let more : length (hand ++ card ∷ []) ≡ length hand + 1 = one_longer hand card in
    record {
      each = length-set c.players seat (Some (record { cards = hand ++ card ∷ [] })) ∙ deal.each;
      hands = all_put (HandFits (length deck)) c.players seat (Some (record { cards = hand ++ card ∷ [] })) (omega arith) (all_fewer (length deck) c.players hands);
      cards = omega arith;
    }

draw_to_makes : (seats draws : ℕ) (c : Cards) (seat : ℕ) (hand : Option (List ℕ)) (deck words : List ℕ) → hand_of c seat ≡ hand → deck_in c.secret ≡ deck → IsDeal seats draws c → QuietlyMakes (IsDeal seats (draws + 1)) (draw_to c seat hand deck words)
draw_to_makes seats draws c seat None deck words its first deal = tt
draw_to_makes seats draws c seat (Some hand) [] words its first deal = tt
draw_to_makes seats draws c seat (Some hand) (card ∷ deck) words its first deal =
    either_makes (IsDeal seats (draws + 1)) (are_few (hand ++ card ∷ []) && are_few deck) (Done (with_deck (with_hand c seat (hand ++ card ∷ [])) deck) words []) (GaveUp Invalid) (drawn_deal seats draws c seat hand card deck its first deal) tt

draw_makes : (seats draws : ℕ) (c : Cards) (seat : ℕ) (args : List Arg) (words : List ℕ) → IsDeal seats draws c → QuietlyMakes (IsDeal seats (draws + 1)) (draw c seat args words)
draw_makes seats draws c seat [] words deal = draw_to_makes seats draws c seat (hand_of c seat) (deck_in c.secret) words refl refl deal
draw_makes seats draws c seat (next ∷ rest) words deal = tt

-- a move in the first phase
pub first_move_makes : (seats draws : ℕ) (c : Cards) (seat : ℕ) (args : List Arg) (words : List ℕ) → IsDeal seats draws c → QuietlyMakes (IsDeal seats (draws + 1)) (card_move c seat 0 args words)
first_move_makes seats draws c seat args words deal = either_makes (IsDeal seats (draws + 1)) (nat_lt seat 4) (draw c seat args words) (GaveUp Invalid) (draw_makes seats draws c seat args words deal) tt

-- ---- no move queues an event

abbrev Any : Cards → Type 0
Any c = Unit {0}

draw_to_quiet : (c : Cards) (seat : ℕ) (hand : Option (List ℕ)) (deck words : List ℕ) → QuietlyMakes Any (draw_to c seat hand deck words)
draw_to_quiet c seat None deck words = tt
draw_to_quiet c seat (Some hand) [] words = tt
draw_to_quiet c seat (Some hand) (card ∷ deck) words = either_makes Any (are_few (hand ++ card ∷ []) && are_few deck) (Done (with_deck (with_hand c seat (hand ++ card ∷ [])) deck) words []) (GaveUp Invalid) tt tt

draw_quiet : (c : Cards) (seat : ℕ) (args : List Arg) (words : List ℕ) → QuietlyMakes Any (draw c seat args words)
draw_quiet c seat [] words = draw_to_quiet c seat (hand_of c seat) (deck_in c.secret) words
draw_quiet c seat (next ∷ rest) words = tt

lay_card_quiet : (c : Cards) (seat place : ℕ) (hand : List ℕ) (card : Option ℕ) (words : List ℕ) → QuietlyMakes Any (lay_card c seat place hand card words)
lay_card_quiet c seat place hand None words = tt
lay_card_quiet c seat place hand (Some card) words = either_makes Any (are_few (remove hand place) && is_free (slice_get c.common.places seat)) (Done (laid c seat card (remove hand place)) words []) (GaveUp Invalid) tt tt

lay_from_quiet : (c : Cards) (seat place : ℕ) (hand : Option (List ℕ)) (words : List ℕ) → QuietlyMakes Any (lay_from c seat place hand words)
lay_from_quiet c seat place None words = tt
lay_from_quiet c seat place (Some hand) words = lay_card_quiet c seat place hand (slice_get hand place) words

lay_quiet : (c : Cards) (seat : ℕ) (args : List Arg) (words : List ℕ) → QuietlyMakes Any (lay c seat args words)
lay_quiet c seat (Whole (pos place) ∷ []) words = lay_from_quiet c seat place (hand_of c seat) words
lay_quiet c seat args words = tt

pub move_quiet : (c : Cards) (seat id : ℕ) (args : List Arg) (words : List ℕ) → QuietlyMakes Any (card_move c seat id args words)
move_quiet c seat id args words = either_makes Any (nat_lt seat 4) _ (GaveUp Invalid) (either_makes Any (nat_eq id 0) (draw c seat args words) (lay c seat args words) (draw_quiet c seat args words) (lay_quiet c seat args words)) tt

-- ---- as a turn ends

same_cards : (seats draws : ℕ) (full : Bool) (c : Cards) → IsDeal seats draws c → IsDeal seats draws (if full then scored c else c)
same_cards seats draws true c deal = record { each = deal.each; hands = deal.hands; cards = deal.cards }
same_cards seats draws false c deal = deal

pub turn_deal : (seats draws more : ℕ) (c : Cards) → draws ≤ more → IsDeal seats draws c → IsDeal seats more (after_turn c)
turn_deal seats draws more c grows deal =
    let same : IsDeal seats draws (after_turn c) = same_cards seats draws (is_full c.common.places) c deal in
    record { each = same.each; hands = same.hands; cards = omega (arith, same.cards) }

-- ---- the beginning

all_empty : (left seats : ℕ) → left ≤ 52 → AllByRecursion (HandFits left) (replicate seats (Some (record { cards = [] })))
all_empty left zero few = tt
all_empty left (suc seats) few = (omega arith, all_empty left seats few)

first_deal : (seats : ℕ) (deck : List ℕ) → length deck ≤ 52 → 8 ≤ length deck → IsDeal seats 0 (before_draws seats deck)
first_deal seats deck most least = record { each = length-replicate seats (Some (record { cards = [] })); hands = all_empty (length deck) seats most; cards = omega arith }

also : (o : Option (List ℕ × List ℕ)) {n m : ℕ} → n ≡ m → IfSome o (λ deal. length deal.0 ≡ n) → IfSome o (λ deal. length deal.0 ≡ m)
also None same is = tt
also (Some deal) same is = is ∙ same

shuffled_count : (i : ℕ) (cards words : List ℕ) → IfSome (shuffled_from i cards words) (λ deal. length deal.0 ≡ length cards)
unfolding shuffled_from
shuffled_count zero cards words = refl
shuffled_count (suc i) cards [] = tt
shuffled_count (suc i) cards (word ∷ words) = also (shuffled_from i (swap cards (suc i) (die (suc i + 1) word - 1)) words) (length-swap cards (suc i) (die (suc i + 1) word - 1)) (shuffled_count i (swap cards (suc i) (die (suc i + 1) word - 1)) words)

opened_deal : (seats : ℕ) (deal : Option (List ℕ × List ℕ)) → IfSome deal (λ dealt. length dealt.0 ≡ 52) → QuietlyMakes (IsDeal seats 0) (opened seats deal)
opened_deal seats None is = tt
opened_deal seats (Some (deck, words)) is = first_deal seats deck (omega (arith, is)) (omega (arith, is))

-- a pack, or a deck with a card for each draw
abbrev pub HasDeck : Option Dealt → Type 0
HasDeck None = Unit {0}
HasDeck (Some dealt) = 8 ≤ length dealt.cards

pub deal_begins : (deck : Option Dealt) (seats : ℕ) (words : List ℕ) → HasDeck deck → QuietlyMakes (IsDeal seats 0) (set_up deck seats words)
deal_begins None seats words has = opened_deal seats (shuffled pack words) (shuffled_count (length pack - 1) pack words)
deal_begins (Some dealt) seats words has = first_deal seats dealt.cards (leb-true (length dealt.cards) 52 (and_parts (are_few dealt.cards) (list_all is_card dealt.cards) dealt.proper).0) has

-- ---- a seat can draw

record HandOf (players : List (Option Hand)) (seat left : ℕ) : Type 0 where
  pub hand : List ℕ
  pub its : hand_in (slice_get players seat) ≡ Some hand
  pub few : length hand + left ≤ 52

fit_hand : (player : Option Hand) (players : List (Option Hand)) (left : ℕ) → HandFits left player → HandOf (player ∷ players) zero left
fit_hand None players left fits = absurd fits
fit_hand (Some hand) players left fits = record { hand = hand.cards; its = refl; few = fits }

hand_there : (players : List (Option Hand)) (seat left : ℕ) → seat < length players → AllByRecursion (HandFits left) players → HandOf players seat left
hand_there [] seat left low all = absurd (omega arith)
hand_there (player ∷ players) zero left low all = fit_hand player players left all.0
hand_there (player ∷ players) (suc seat) left low all = let rest = hand_there players seat left (omega arith) all.1 in record { hand = rest.hand; its = rest.its; few = rest.few }

from_deck : (c : Cards) (seat : ℕ) (deck : List ℕ) → deck_in c.secret ≡ deck → 0 < length deck → HandOf c.players seat (length deck) → CanDraw c seat
from_deck c seat [] is some has = absurd (omega arith)
from_deck c seat (card ∷ deck) is some has = record { hand = has.hand; card = card; deck = deck; its = has.its; first = is; few = omega (arith, has.few) }

pub can_draw : (seats draws : ℕ) (c : Cards) (seat : ℕ) → draws < 8 → seat < seats → IsDeal seats draws c → CanDraw c seat
can_draw seats draws c seat few low deal =
    let there : seat < length c.players = omega (arith, deal.each) in
    from_deck c seat (deck_in c.secret) refl (omega (arith, deal.cards)) (hand_there c.players seat (length (deck_in c.secret)) there deal.hands)
