-- High Hand keeps the laws of games.
use Rattle.std.specs.Prelude.{◌≡◌, ℕ, zero, suc, pos, negsuc, ◌+◌, ◌-◌, ◌^◌, ◌==◌, ◌<◌, ◌≤◌, ◌&&◌, nat_eq, nat_le, nat_lt, Bool, true, false, if◌then◌else◌, IsTrue, IfSome, List, [], ◌∷◌, ◌++◌, length, remove, replicate, slice_get, slice_index, slice_index_or, slice_set, swap, codes, Option, Some, None, refl}
use Rattle.std.specs.List.{AllByRecursion, list_all}
use Rattle.std.proofs.Common.{◌∙◌, ap, eq-eqb, lit<, lit≤}
use Rattle.std.proofs.Math.Nat.{le_trans, min-le_right}
use Rattle.std.proofs.lemmas.Bool.{and_parts, le-leb}
use Rattle.std.proofs.lemmas.List.{length-replicate, length-set}
use Rattle.std.proofs.lemmas.List.Edits.{length-swap}
use Rattle.std.proofs.lemmas.List.Folds.{list_all-append}
use Rattle.card_games.specs.Greatest.{first_greatest}
use Rattle.card_games.specs.HighHand.{Cards, after_turn, are_places, before_draws, card_move, card_offers, draw, draw_to, hand_in, hand_of, have_places, height, high_hand, high_hand_sheet, is_free, is_full, is_played, laid, lay, lay_card, lay_from, lay_offers, lays, opened, point_at, scored, set_up, with_deck, with_hand}
use Rattle.card_games.specs.Json.{apply}
use Rattle.card_games.specs.OwnLaws.{OwnSplit, all_copies, all_if, all_joined, all_set, count_seen, either_gives, either_keeps, either_own, move_own, of_parts, parts_of, view_own}
use Rattle.card_games.specs.Pack.{are_cards, are_few, is_card, pack}
use Rattle.card_games.specs.PartLaws.{IsMemberFrom, IsPart, IsReadFrom, IsRow, applied, both_true, count_part, counts_part, list_part, lone_part, member_from, number_part, object_back, object_from, option_part, passing_part, read_from, small_is_count, split_part, wrapped_part}
use Rattle.card_games.specs.Parts.{cards_value, deck_in, deck_value, hand_value, is_count, list_value, number_value, one_more, option_value, own_deck, own_hand, own_option, own_split, own_state, own_table, read_card, read_cards, read_count, read_deck, read_hand, read_list, read_member, read_option, read_state, read_table, table_names, table_of, table_value}
use Rattle.card_games.specs.SealedLaws.{greatest_ends}
use Rattle.card_games.specs.declared.cards.CardTable.{CardTable}
use Rattle.card_games.specs.declared.cards.Deck.{Deck}
use Rattle.card_games.specs.declared.cards.Hand.{Hand}
use Rattle.card_games.specs.declared.dealt.Dealt.{Dealt}
use Rattle.dice_words.specs.Dice.{die, shuffled, shuffled_from}
use Rattle.game_sheet.proofs.Fits.{fits}
use Rattle.game_sheet.specs.SheetRules.{broken}
use Rattle.game_sheet.specs.declared.args.Arg.{Arg}
use Rattle.game_sheet.specs.declared.args.Arg.TheVariants.{Whole, Text}
use Rattle.game_trait.specs.Deed.{GaveUp, Invalid}
use Rattle.game_trait.specs.Lawful.{GivesOwn, Lawful}
use Rattle.game_trait.specs.Queues.{KeepsToSheet, QueuesInSheet}
use Rattle.game_trait.specs.Offers.{offered_known, offered_none}
use Rattle.json_tree.proofs.WritableRows.{fixed}
use Rattle.json_tree.specs.Canonical.{MembersAreCanonical}
use Rattle.json_tree.specs.Writable.{IsWritable}
use Rattle.secret_strip.specs.Strip.{strip}
use Rattle.secret_strip.proofs.PlayersLemmas.{strip_twice}
use Rattle.serde_json.specs.Data.{Data, null, boolean, number, string, array, object, Members, no_members, member}
use Rattle.serde_json.specs.Find.{get_member}

-- ---- reading

card_part : IsPart number_value read_card is_card
card_part = number_part 51 (lit< tt)

places_part : IsPart (list_value (option_value number_value)) (read_list (read_option read_card)) (list_all (own_option is_card))
places_part = list_part (option_value number_value) (read_option read_card) (own_option is_card) (option_part number_value read_card is_card card_part (λ card own. refl))

pile_part : IsPart (list_value number_value) read_cards are_cards
pile_part = passing_part (list_value number_value) (read_list read_card) (list_all is_card) are_few (list_part number_value read_card is_card card_part)

abbrev hand_with : List ℕ → Hand
hand_with cards = record { cards = cards }

hand_part : IsPart hand_value read_hand own_hand
hand_part = wrapped_part (codes "hand") (list_value number_value) read_cards are_cards hand_with (λ h. h.cards) (λ h. refl) (λ cards. refl)
    (lone_part (codes "hand") (λ d. refl) (λ d. refl) (λ d. refl) (list_value number_value) read_cards are_cards pile_part)

abbrev deck_with : List ℕ → Deck
deck_with cards = record { cards = cards }

deck_part : IsPart deck_value read_deck own_deck
deck_part = wrapped_part (codes "deck") (list_value number_value) read_cards are_cards deck_with (λ d. d.cards) (λ d. refl) (λ cards. refl)
    (lone_part (codes "deck") (λ d. refl) (λ d. refl) (λ d. refl) (list_value number_value) read_cards are_cards pile_part)

abbrev table_members : CardTable → Members
table_members t = member (codes "hands") (list_value number_value t.hands) (member (codes "left") (number_value t.left) (member (codes "scores") (list_value number_value t.scores) (member (codes "table") (list_value (option_value number_value) t.places) no_members)))

abbrev pick_table : Data → Option CardTable
pick_table d = apply (apply (apply (apply (Some table_of) (read_member (codes "hands") (read_list read_count) d)) (read_member (codes "left") read_count d)) (read_member (codes "scores") (read_list read_count) d)) (read_member (codes "table") (read_list (read_option read_card)) d)

abbrev TableFrom : Members → CardTable → Type 0
TableFrom ms t = IsTrue (own_table t) × (MembersAreCanonical ms → AllByRecursion (λ name. get_member name ms ≡ get_member name (table_members t)) table_names)

abbrev CountsFrom : List ℕ → Members → List ℕ → Type 0
CountsFrom name ms = IsMemberFrom name (list_value number_value) (list_all is_count) ms

abbrev LeftFrom : Members → ℕ → Type 0
LeftFrom ms = IsMemberFrom (codes "left") number_value is_count ms

abbrev PlacesFrom : Members → List (Option ℕ) → Type 0
PlacesFrom ms = IsMemberFrom (codes "table") (list_value (option_value number_value)) (list_all (own_option is_card)) ms

table_row_from : (ms : Members) → IfSome (pick_table (object ms)) (TableFrom ms)
table_row_from ms =
    applied (PlacesFrom ms) (TableFrom ms) _ _
    (applied (CountsFrom (codes "scores") ms) (λ f. (places : List (Option ℕ)) → PlacesFrom ms places → TableFrom ms (f places)) _ _
    (applied (LeftFrom ms) (λ f. (scores : List ℕ) → CountsFrom (codes "scores") ms scores → (places : List (Option ℕ)) → PlacesFrom ms places → TableFrom ms (f scores places)) _ _
    (applied (CountsFrom (codes "hands") ms) (λ f. (left : ℕ) → LeftFrom ms left → (scores : List ℕ) → CountsFrom (codes "scores") ms scores → (places : List (Option ℕ)) → PlacesFrom ms places → TableFrom ms (f left scores places)) (Some table_of) _
    (λ hands h left l scores s places p. (
      both_true (list_all is_count hands && is_count left && list_all is_count scores) (list_all (own_option is_card) places)
          (both_true (list_all is_count hands && is_count left) (list_all is_count scores) (both_true (list_all is_count hands) (is_count left) h.0 l.0) s.0) p.0,
      λ canonical. (h.1 canonical, (l.1 canonical, (s.1 canonical, (p.1 canonical, tt)))),
    ))
    (member_from (codes "hands") (list_value number_value) (read_list read_count) (list_all is_count) counts_part ms))
    (member_from (codes "left") number_value read_count is_count count_part ms))
    (member_from (codes "scores") (list_value number_value) (read_list read_count) (list_all is_count) counts_part ms))
    (member_from (codes "table") (list_value (option_value number_value)) (read_list (read_option read_card)) (list_all (own_option is_card)) places_part ms)

-- the parts of an own table
pub record OwnTable (t : CardTable) : Type 0 where
  pub hands : list_all is_count t.hands ≡ true
  pub left : is_count t.left ≡ true
  pub scores : list_all is_count t.scores ≡ true
  pub places : list_all (own_option is_card) t.places ≡ true

table_parts : (t : CardTable) → IsTrue (own_table t) → OwnTable t
table_parts t own =
    let outer = and_parts (list_all is_count t.hands && is_count t.left && list_all is_count t.scores) (list_all (own_option is_card) t.places) own in
    let middle = and_parts (list_all is_count t.hands && is_count t.left) (list_all is_count t.scores) outer.0 in
    let inner = and_parts (list_all is_count t.hands) (is_count t.left) middle.0 in
    record { hands = inner.0; left = inner.1; scores = middle.1; places = outer.1 }

of_table_parts : (t : CardTable) → OwnTable t → IsTrue (own_table t)
of_table_parts t parts =
    both_true (list_all is_count t.hands && is_count t.left && list_all is_count t.scores) (list_all (own_option is_card) t.places)
    (both_true (list_all is_count t.hands && is_count t.left) (list_all is_count t.scores) (both_true (list_all is_count t.hands) (is_count t.left) parts.hands parts.left) parts.scores) parts.places

table_row_back : (t : CardTable) → IsTrue (own_table t) → pick_table (object (table_members t)) ≡ Some t
table_row_back t own =
    let parts = table_parts t own in
    let places = read_list (read_option read_card) (list_value (option_value number_value) t.places) in
    let scores = read_list read_count (list_value number_value t.scores) in
    ap (λ o. apply (apply (apply (apply (Some table_of) o) (read_count (number_value t.left))) scores) places) (counts_part.back t.hands parts.hands)
    ∙ ap (λ o. apply (apply (apply (Some (table_of t.hands)) o) scores) places) (count_part.back t.left parts.left)
    ∙ ap (λ o. apply (apply (Some (table_of t.hands t.left)) o) places) (counts_part.back t.scores parts.scores)
    ∙ ap (apply (Some (table_of t.hands t.left t.scores))) (places_part.back t.places parts.places)

table_row : IsRow table_names table_members pick_table own_table
table_row = record {
  ordered = λ t. ((refl, (refl, (refl, tt))), ((refl, (refl, tt)), ((refl, tt), (tt, tt))));
  no_more = λ t. refl;
  back = table_row_back;
  from = table_row_from;
}

table_from : (v : Data) → IfSome (read_table v) (IsReadFrom table_value own_table v)
table_from null = tt
table_from (boolean b) = tt
table_from (number n) = tt
table_from (string s) = tt
table_from (array ds) = tt
table_from (object ms) = object_from table_names table_members pick_table own_table table_row ms

table_written : (t : CardTable) → IsTrue (own_table t) → IsWritable (table_value t)
table_written t own =
    let parts = table_parts t own in
    fixed (table_members t) refl (counts_part.written t.hands parts.hands, (count_part.written t.left parts.left, (counts_part.written t.scores parts.scores, (places_part.written t.places parts.places, tt))))

table_part : IsPart table_value read_table own_table
table_part = record { back = object_back table_names table_members pick_table own_table table_row; from = table_from; written = table_written }

state_part : IsPart cards_value read_state own_state
state_part = passing_part cards_value _ (own_split own_table own_deck own_hand) have_places
    (split_part table_value read_table own_table table_part
    deck_value read_deck own_deck (option_part deck_value read_deck own_deck deck_part (λ deck own. refl))
    hand_value read_hand own_hand (list_part (option_value hand_value) (read_option read_hand) (own_option own_hand) (option_part hand_value read_hand own_hand hand_part (λ hand own. refl))))

-- ---- what is own

abbrev OwnCards : Cards → Type 0
OwnCards g = OwnSplit have_places own_table own_deck own_hand g

card_parts : (g : Cards) → IsTrue (own_state g) → OwnCards g
card_parts g own = parts_of have_places own_table own_deck own_hand g own

of_card_parts : (g : Cards) → OwnCards g → IsTrue (own_state g)
of_card_parts g parts = of_parts have_places own_table own_deck own_hand g parts

-- a count of a few cards is one of 32 bits
few_counted : (cards : List ℕ) → are_few cards ≡ true → IsTrue (is_count (length cards))
few_counted cards few = small_is_count (length cards) 52 (lit≤ tt) few

with_hand_own : (g : Cards) (seat : ℕ) (hand : List ℕ) → OwnCards g → are_few hand ≡ true → list_all is_card hand ≡ true → OwnCards (with_hand g seat hand)
with_hand_own g seat hand own few cards =
    let entry : Option Hand = Some (record { cards = hand }) in
    let table = table_parts g.common own.own_common in
    record {
      seats = ap (λ players. are_places players (length (slice_set g.common.hands seat (length hand))) (length g.common.scores) (length g.common.places)) (length-set g.players seat entry)
          ∙ ap (λ hands. are_places (length g.players) hands (length g.common.scores) (length g.common.places)) (length-set g.common.hands seat (length hand)) ∙ own.seats;
      own_common = of_table_parts (with_hand g seat hand).common (record { hands = all_set is_count g.common.hands seat (length hand) table.hands (few_counted hand few); left = table.left; scores = table.scores; places = table.places });
      own_secret = own.own_secret;
      own_players = all_set (own_option own_hand) g.players seat entry own.own_players (both_true (are_few hand) (list_all is_card hand) few cards);
    }

with_deck_own : (g : Cards) (deck : List ℕ) → OwnCards g → are_few deck ≡ true → list_all is_card deck ≡ true → OwnCards (with_deck g deck)
with_deck_own g deck own few cards =
    let table = table_parts g.common own.own_common in
    record {
      seats = own.seats;
      own_common = of_table_parts (with_deck g deck).common (record { hands = table.hands; left = few_counted deck few; scores = table.scores; places = table.places });
      own_secret = both_true (are_few deck) (list_all is_card deck) few cards;
      own_players = own.own_players;
    }

all_get : {A : Type 0} (p : A → Bool) (xs : List A) (i : ℕ) → list_all p xs ≡ true → own_option p (slice_get xs i) ≡ true
all_get p [] i all = refl
all_get p (x ∷ xs) zero all = (and_parts (p x) (list_all p xs) all).0
all_get p (x ∷ xs) (suc i) all = all_get p xs i (and_parts (p x) (list_all p xs) all).1

hand_in_own : (entry : Option (Option Hand)) → own_option (own_option own_hand) entry ≡ true → own_option are_cards (hand_in entry) ≡ true
hand_in_own None own = refl
hand_in_own (Some None) own = refl
hand_in_own (Some (Some hand)) own = own

hand_own : (g : Cards) (seat : ℕ) → OwnCards g → own_option are_cards (hand_of g seat) ≡ true
hand_own g seat own = hand_in_own (slice_get g.players seat) (all_get (own_option own_hand) g.players seat own.own_players)

deck_in_own : (secret : Option Deck) → own_option own_deck secret ≡ true → are_cards (deck_in secret) ≡ true
deck_in_own None own = refl
deck_in_own (Some deck) own = own

joined_cards : (hand : List ℕ) (card : ℕ) → list_all is_card hand ≡ true → is_card card ≡ true → list_all is_card (hand ++ card ∷ []) ≡ true
joined_cards hand card all here = list_all-append is_card hand (card ∷ []) ∙ both_true (list_all is_card hand) (is_card card && true) all (both_true (is_card card) true here refl)

draw_to_own : (g : Cards) (seat : ℕ) (hand : Option (List ℕ)) (deck words : List ℕ) → OwnCards g → own_option are_cards hand ≡ true → are_cards deck ≡ true → GivesOwn own_state (draw_to g seat hand deck words)
draw_to_own g seat None deck words own own_h own_d = tt
draw_to_own g seat (Some hand) [] words own own_h own_d = tt
draw_to_own g seat (Some hand) (card ∷ deck) words own own_h own_d =
    let in_hand = and_parts (are_few hand) (list_all is_card hand) own_h in
    let in_deck = and_parts (are_few (card ∷ deck)) (list_all is_card (card ∷ deck)) own_d in
    let cards = and_parts (is_card card) (list_all is_card deck) in_deck.1 in
    move_own own_state (are_few (hand ++ card ∷ []) && are_few deck) _ words
    (λ made. let few = and_parts (are_few (hand ++ card ∷ [])) (are_few deck) made in
    of_card_parts (with_deck (with_hand g seat (hand ++ card ∷ [])) deck) (with_deck_own (with_hand g seat (hand ++ card ∷ [])) deck (with_hand_own g seat (hand ++ card ∷ []) own few.0 (joined_cards hand card in_hand.1 cards.0)) few.1 cards.1))

draw_own : (g : Cards) (seat : ℕ) (args : List Arg) (words : List ℕ) → OwnCards g → GivesOwn own_state (draw g seat args words)
draw_own g seat (next ∷ rest) words own = tt
draw_own g seat [] words own = draw_to_own g seat (hand_of g seat) (deck_in g.secret) words own (hand_own g seat own) (deck_in_own g.secret own.own_secret)

all_removed : {A : Type 0} (p : A → Bool) (xs : List A) (i : ℕ) → list_all p xs ≡ true → list_all p (remove xs i) ≡ true
all_removed p [] zero all = refl
all_removed p [] (suc i) all = refl
all_removed p (x ∷ xs) zero all = (and_parts (p x) (list_all p xs) all).1
all_removed p (x ∷ xs) (suc i) all = let parts = and_parts (p x) (list_all p xs) all in both_true (p x) (list_all p (remove xs i)) parts.0 (all_removed p xs i parts.1)

laid_own : (g : Cards) (seat card : ℕ) (hand : List ℕ) → OwnCards g → is_card card ≡ true → are_few hand ≡ true → list_all is_card hand ≡ true → OwnCards (laid g seat card hand)
laid_own g seat card hand own here few cards =
    let place : Option ℕ = Some card in
    let after = with_hand_own g seat hand own few cards in
    let table = table_parts (with_hand g seat hand).common after.own_common in
    record {
      seats = ap (λ places. are_places (length (slice_set g.players seat (Some (record { cards = hand })))) (length (slice_set g.common.hands seat (length hand))) (length g.common.scores) places) (length-set g.common.places seat place) ∙ after.seats;
      own_common = of_table_parts (laid g seat card hand).common (record { hands = table.hands; left = table.left; scores = table.scores; places = all_set (own_option is_card) g.common.places seat place table.places here });
      own_secret = after.own_secret;
      own_players = after.own_players;
    }

lay_card_own : (g : Cards) (seat place : ℕ) (hand : List ℕ) (card : Option ℕ) (words : List ℕ) → OwnCards g → own_option is_card card ≡ true → list_all is_card hand ≡ true → GivesOwn own_state (lay_card g seat place hand card words)
lay_card_own g seat place hand None words own here cards = tt
lay_card_own g seat place hand (Some card) words own here cards =
    move_own own_state (are_few (remove hand place) && is_free (slice_get g.common.places seat)) _ words
    (λ made. of_card_parts (laid g seat card (remove hand place)) (laid_own g seat card (remove hand place) own here (and_parts (are_few (remove hand place)) (is_free (slice_get g.common.places seat)) made).0 (all_removed is_card hand place cards)))

lay_from_own : (g : Cards) (seat place : ℕ) (hand : Option (List ℕ)) (words : List ℕ) → OwnCards g → own_option are_cards hand ≡ true → GivesOwn own_state (lay_from g seat place hand words)
lay_from_own g seat place None words own own_h = tt
lay_from_own g seat place (Some hand) words own own_h =
    let cards = (and_parts (are_few hand) (list_all is_card hand) own_h).1 in
    lay_card_own g seat place hand (slice_get hand place) words own (all_get is_card hand place cards) cards

lay_own : (g : Cards) (seat : ℕ) (args : List Arg) (words : List ℕ) → OwnCards g → GivesOwn own_state (lay g seat args words)
lay_own g seat [] words own = tt
lay_own g seat (Text t ∷ rest) words own = tt
lay_own g seat (Whole (negsuc n) ∷ rest) words own = tt
lay_own g seat (Whole (pos place) ∷ next ∷ rest) words own = tt
lay_own g seat (Whole (pos place) ∷ []) words own = lay_from_own g seat place (hand_of g seat) words own (hand_own g seat own)

move_kept : (g : Cards) (seat id : ℕ) (args : List Arg) (words : List ℕ) → OwnCards g → GivesOwn own_state (card_move g seat id args words)
move_kept g seat id args words own =
    either_gives own_state (nat_lt seat 4) (if nat_eq id 0 then draw g seat args words else lay g seat args words) (GaveUp Invalid)
    (either_gives own_state (nat_eq id 0) (draw g seat args words) (lay g seat args words) (draw_own g seat args words own) (lay_own g seat args words own)) tt

more_counted : (score : ℕ) → IsTrue (is_count (one_more score))
more_counted score = le-leb (one_more score) (2 ^ 32 - 1) (min-le_right (score + 1) (2 ^ 32 - 1))

point_own : (place : Option ℕ) (scores : List ℕ) → list_all is_count scores ≡ true → list_all is_count (point_at place scores) ≡ true
point_own None scores own = own
point_own (Some place) scores own = all_set is_count scores place (one_more (slice_index scores place)) own (more_counted (slice_index scores place))

point_length : (place : Option ℕ) (scores : List ℕ) → length (point_at place scores) ≡ length scores
point_length None scores = refl
point_length (Some place) scores = length-set scores place (one_more (slice_index scores place))

scored_own : (g : Cards) → OwnCards g → OwnCards (scored g)
scored_own g own =
    let place = first_greatest height g.common.places in
    let free : Option ℕ = None in
    let table = table_parts g.common own.own_common in
    record {
      seats = ap (λ scores. are_places (length g.players) (length g.common.hands) scores (length (replicate (length g.common.places) free))) (point_length place g.common.scores)
          ∙ ap (λ places. are_places (length g.players) (length g.common.hands) (length g.common.scores) places) (length-replicate (length g.common.places) free) ∙ own.seats;
      own_common = of_table_parts (scored g).common (record { hands = table.hands; left = table.left; scores = point_own place g.common.scores table.scores; places = all_copies (own_option is_card) (length g.common.places) free refl });
      own_secret = own.own_secret;
      own_players = own.own_players;
    }

turn_own : (g : Cards) → IsTrue (own_state g) → IsTrue (own_state (after_turn g))
turn_own g own = either_own own_state (is_full g.common.places) (scored g) g (λ full. of_card_parts (scored g) (scored_own g (card_parts g own))) own

first_places : (seats : ℕ) → 2 ≤ seats → seats ≤ 4 → are_places seats seats seats seats ≡ true
first_places seats least most =
    let same = eq-eqb seats seats refl in
    both_true (nat_le 1 seats && nat_le seats 8 && (seats == seats) && (seats == seats)) (seats == seats)
    (both_true (nat_le 1 seats && nat_le seats 8 && (seats == seats)) (seats == seats)
    (both_true (nat_le 1 seats && nat_le seats 8) (seats == seats)
    (both_true (nat_le 1 seats) (nat_le seats 8) (le-leb 1 seats (le_trans {n = 1} {m = 2} {k = seats} (lit≤ tt) least)) (le-leb seats 8 (le_trans {n = seats} {m = 4} {k = 8} most (lit≤ tt))))
    same) same) same

first_own : (seats : ℕ) (deck : List ℕ) → 2 ≤ seats → seats ≤ 4 → are_cards deck ≡ true → IsTrue (own_state (before_draws seats deck))
first_own seats deck least most own =
    let nothing : ℕ = 0 in
    let free : Option ℕ = None in
    let hand : Option Hand = Some (record { cards = [] }) in
    let zeros = length-replicate seats nothing in
    of_card_parts (before_draws seats deck) (record {
      seats = ap (λ players. are_places players (length (replicate seats nothing)) (length (replicate seats nothing)) (length (replicate seats free))) (length-replicate seats hand)
          ∙ ap (λ hands. are_places seats hands (length (replicate seats nothing)) (length (replicate seats free))) zeros
          ∙ ap (λ scores. are_places seats seats scores (length (replicate seats free))) zeros
          ∙ ap (λ places. are_places seats seats seats places) (length-replicate seats free) ∙ first_places seats least most;
      own_common = of_table_parts (before_draws seats deck).common (record { hands = all_copies is_count seats nothing refl; left = refl; scores = all_copies is_count seats nothing refl; places = all_copies (own_option is_card) seats free refl });
      own_secret = own;
      own_players = all_copies (own_option own_hand) seats hand refl;
    })

all_at : {A : Type 0} (p : A → Bool) (xs : List A) (i : ℕ) (d : A) → list_all p xs ≡ true → p d ≡ true → p (slice_index_or xs i d) ≡ true
all_at p [] i d all here = here
all_at p (x ∷ xs) zero d all here = (and_parts (p x) (list_all p xs) all).0
all_at p (x ∷ xs) (suc i) d all here = all_at p xs i d (and_parts (p x) (list_all p xs) all).1 here

all_swapped : {A : Type 0} (p : A → Bool) (xs : List A) (i j : ℕ) → list_all p xs ≡ true → list_all p (swap xs i j) ≡ true
all_swapped p [] i j all = refl
all_swapped p (x ∷ xs) i j all =
    let first = (and_parts (p x) (list_all p xs) all).0 in
    all_set p (slice_set (x ∷ xs) i (slice_index_or (x ∷ xs) j x)) j (slice_index_or (x ∷ xs) i x) (all_set p (x ∷ xs) i (slice_index_or (x ∷ xs) j x) all (all_at p (x ∷ xs) j x all first)) (all_at p (x ∷ xs) i x all first)

swapped_own : (cards : List ℕ) (i j : ℕ) → are_cards cards ≡ true → are_cards (swap cards i j) ≡ true
swapped_own cards i j own =
    let parts = and_parts (are_few cards) (list_all is_card cards) own in
    both_true (are_few (swap cards i j)) (list_all is_card (swap cards i j)) (ap (λ count. nat_le count 52) (length-swap cards i j) ∙ parts.0) (all_swapped is_card cards i j parts.1)

shuffled_own : (i : ℕ) (cards words : List ℕ) → are_cards cards ≡ true → IfSome (shuffled_from i cards words) (λ deal. are_cards deal.0 ≡ true)
unfolding shuffled_from
shuffled_own zero cards words own = own
shuffled_own (suc i) cards [] own = tt
shuffled_own (suc i) cards (word ∷ words) own = shuffled_own i (swap cards (suc i) (die (suc i + 1) word - 1)) words (swapped_own cards (suc i) (die (suc i + 1) word - 1) own)

opened_own : (seats : ℕ) (deal : Option (List ℕ × List ℕ)) → 2 ≤ seats → seats ≤ 4 → IfSome deal (λ dealt. are_cards dealt.0 ≡ true) → GivesOwn own_state (opened seats deal)
opened_own seats None least most own = tt
opened_own seats (Some (deck, words)) least most own = first_own seats deck least most own

set_up_own : (dealt : Option Dealt) (seats : ℕ) (words : List ℕ) → 2 ≤ seats → seats ≤ 4 → GivesOwn own_state (set_up dealt seats words)
set_up_own None seats words least most = opened_own seats (shuffled pack words) least most (shuffled_own (length pack - 1) pack words refl)
set_up_own (Some dealt) seats words least most = first_own seats dealt.cards least most dealt.proper

as_many : (g : Cards) (viewer : Option ℕ) → have_places (strip g viewer) ≡ have_places g
as_many g viewer = ap (λ players. are_places players (length g.common.hands) (length g.common.scores) (length g.common.places)) (count_seen viewer g.players)

-- ---- what is offered

abbrev IsKnown : ℕ × List Arg → Type 0
IsKnown offer = offer.0 < 2

lays_known : (count : ℕ) → AllByRecursion IsKnown (lays count)
lays_known zero = tt
lays_known (suc place) = all_joined IsKnown (lays place) ((1, Whole (pos place) ∷ []) ∷ []) (lays_known place) (lit< tt, tt)

lay_offers_known : (g : Cards) (seat : ℕ) (hand : Option (List ℕ)) → AllByRecursion IsKnown (lay_offers g seat hand)
lay_offers_known g seat None = tt
lay_offers_known g seat (Some hand) = all_if IsKnown (are_few hand && is_free (slice_get g.common.places seat)) (lays (length hand)) (lays_known (length hand))

one_known : (test : Bool) (xs ys : List (ℕ × List Arg)) → AllByRecursion IsKnown xs → AllByRecursion IsKnown ys → AllByRecursion IsKnown (if test then xs else ys)
one_known true xs ys p q = p
one_known false xs ys p q = q

card_offers_known : (g : Cards) (seat : ℕ) (phase : Option ℕ) → AllByRecursion IsKnown (card_offers g seat phase)
card_offers_known g seat None = tt
card_offers_known g seat (Some phase) =
    one_known (nat_eq phase 0) ((0, []) ∷ []) (if nat_eq phase 1 then lay_offers g seat (hand_of g seat) else []) (lit< tt, tt)
    (all_if IsKnown (nat_eq phase 1) (lay_offers g seat (hand_of g seat)) (lay_offers_known g seat (hand_of g seat)))

-- ---- the laws

high_hand_sheet_fits : broken high_hand_sheet ≡ 0
unfolding broken
high_hand_sheet_fits = refl

pub high_hand_lawful : (dealt : Option Dealt) → Lawful (high_hand dealt)
high_hand_lawful dealt = record {
  fits = fits high_hand_sheet high_hand_sheet_fits;
  setup = λ seats words least most. set_up_own dealt seats words least most;
  play = λ g ctx seat id args words own. move_kept g seat id args words (card_parts g own);
  on_move = λ g ctx seat words own. own;
  turn_begin = λ g ctx words own. own;
  turn_end = λ g ctx words own. turn_own g own;
  phase_begin = λ g ctx phase words own. own;
  phase_end = λ g ctx phase words own. own;
  game_end = λ g ctx words own. own;
  ends = λ g ctx outcome own is. greatest_ends (is_played g ctx.phase) _ g.common.scores outcome is;
  view = λ g ctx viewer own. view_own have_places own_table own_deck own_hand g viewer (as_many g viewer) own;
  view_again = λ g ctx viewer own. strip_twice g viewer;
  written_object = λ g own. refl;
  written = λ g own. state_part.written g own;
  reads_back = λ g own. state_part.back g own;
  read_own = λ v g is. (read_from cards_value read_state own_state state_part v g is).0;
  read_only = λ v g canonical is. (read_from cards_value read_state own_state state_part v g is).1 canonical;
  offers_known = λ g ctx seat. offered_known IsKnown ctx seat (card_offers g seat ctx.phase) (card_offers_known g seat ctx.phase);
  offers_none = λ g ctx seat none. offered_none ctx seat (card_offers g seat ctx.phase) none;
}

-- ---- it queues nothing

drawn_keeps : (g : Cards) (seat : ℕ) (hand : Option (List ℕ)) (deck words : List ℕ) → QueuesInSheet high_hand_sheet (draw_to g seat hand deck words)
drawn_keeps g seat None deck words = tt
drawn_keeps g seat (Some hand) [] words = tt
drawn_keeps g seat (Some hand) (card ∷ deck) words = either_keeps high_hand_sheet (are_few (hand ++ card ∷ []) && are_few deck) _ _ tt tt

draw_keeps : (g : Cards) (seat : ℕ) (args : List Arg) (words : List ℕ) → QueuesInSheet high_hand_sheet (draw g seat args words)
draw_keeps g seat (next ∷ rest) words = tt
draw_keeps g seat [] words = drawn_keeps g seat (hand_of g seat) (deck_in g.secret) words

card_keeps : (g : Cards) (seat place : ℕ) (hand : List ℕ) (card : Option ℕ) (words : List ℕ) → QueuesInSheet high_hand_sheet (lay_card g seat place hand card words)
card_keeps g seat place hand None words = tt
card_keeps g seat place hand (Some card) words = either_keeps high_hand_sheet (are_few (remove hand place) && is_free (slice_get g.common.places seat)) _ _ tt tt

from_keeps : (g : Cards) (seat place : ℕ) (hand : Option (List ℕ)) (words : List ℕ) → QueuesInSheet high_hand_sheet (lay_from g seat place hand words)
from_keeps g seat place None words = tt
from_keeps g seat place (Some hand) words = card_keeps g seat place hand (slice_get hand place) words

lay_keeps : (g : Cards) (seat : ℕ) (args : List Arg) (words : List ℕ) → QueuesInSheet high_hand_sheet (lay g seat args words)
lay_keeps g seat [] words = tt
lay_keeps g seat (Text t ∷ rest) words = tt
lay_keeps g seat (Whole (negsuc n) ∷ rest) words = tt
lay_keeps g seat (Whole (pos place) ∷ next ∷ rest) words = tt
lay_keeps g seat (Whole (pos place) ∷ []) words = from_keeps g seat place (hand_of g seat) words

cards_keep : (g : Cards) (seat id : ℕ) (args : List Arg) (words : List ℕ) → QueuesInSheet high_hand_sheet (card_move g seat id args words)
cards_keep g seat id args words = either_keeps high_hand_sheet (nat_lt seat 4) (if nat_eq id 0 then draw g seat args words else lay g seat args words) _ (either_keeps high_hand_sheet (nat_eq id 0) _ _ (draw_keeps g seat args words) (lay_keeps g seat args words)) tt

pub high_hand_in_sheet : (deck : Option Dealt) → KeepsToSheet (high_hand deck)
high_hand_in_sheet deck = record {
  play = λ g ctx seat id args words known. cards_keep g seat id args words;
  on_move = λ g ctx seat words. tt;
  turn_begin = λ g ctx words. tt;
  turn_end = λ g ctx words. tt;
  phase_begin = λ g ctx phase words. tt;
  phase_end = λ g ctx phase words. tt;
  game_end = λ g ctx words. tt;
}
