-- The texts of the six games' own states are small.
use Rattle.std.proofs.Common.{◌≡◌, ◌≤◌, ◌<◌, ◌+◌, ◌*◌, ◌-◌, ◌^◌, ◌==◌, ◌&&◌, ℕ, Bool, true, false, nat_le, IsTrue, List, [], ◌∷◌, length, Option, Some, None, refl, sym, ap, ◌∙◌, arith, lit<, lit≤, codes}
use Rattle.std.specs.Prelude.{option_map, unwrap_or}
use Rattle.std.specs.List.{list_all}
use Rattle.std.proofs.lemmas.Bool.{and_parts, eqb-true, false≢true, leb-true}
use Rattle.serde_json.specs.Data.{Data, null, Members, member, no_members, object, number, unsigned}
use Rattle.serde_json.specs.Written.{compact_text, members_text}
use Rattle.any_game.specs.AnyRules.{any_rules}
use Rattle.any_game.specs.GameKind.{GameKind, TicTacToe, Countdown, Pig, HighHand, BlindBid, Captions}
use Rattle.any_game.specs.Values.{any_value, as_bids, as_board, as_cards, as_heap, as_points, as_texts}
use Rattle.any_game.specs.declared.any_g.AnyG.{AnyG}
use Rattle.card_games.specs.BlindBid.{Bids, have_bidders}
use Rattle.card_games.specs.Captions.{Texts, have_writers}
use Rattle.card_games.specs.HighHand.{Cards, have_places}
use Rattle.card_games.specs.OwnLaws.{parts_of}
use Rattle.card_games.specs.Pack.{are_cards, are_few, is_card}
use Rattle.card_games.specs.Parts.{bidding_value, bids_value, cards_value, deck_value, from_players, from_scores, hand_value, is_count, list_value, lone_value, no_secret_value, number_value, option_value, own_bidding, own_bids, own_deck, own_hand, own_no_secret, own_option, own_sealed_bid, own_sealed_text, own_shown, own_state, own_table, own_texts, sealed_bid_value, sealed_text_value, shown_value, split_value, table_value, text_value, texts_value}
use Rattle.card_games.specs.Sealed.{are_seats}
use Rattle.card_games.specs.declared.sealed.Sealed.{Sealed}
use Rattle.card_games.specs.declared.cards.Deck.{Deck}
use Rattle.card_games.specs.declared.cards.Hand.{Hand}
use Rattle.game_sheet.specs.Short.{is_plain, is_short}
use Rattle.open_game.specs.Forms.{greatest, is_between, is_seat, seat_value}
use Rattle.secret_strip.specs.declared.split.Split.{Split}
use Rattle.any_game.specs.Sizes.{IsSmall}
use Rattle.any_game.proofs.Texts.{AtMost, list_bytes, member_bytes, number_bytes, option_bytes, quoted_bytes, text_bytes}
use Rattle.table_states.specs.Points.{Points}
use Rattle.table_states.specs.StateForms.{board_form, heap_form, points_form}
use Rattle.table_states.specs.declared.board.Board.{Board}
use Rattle.table_states.specs.declared.heap.Heap.{Heap}
use Rattle.std.specs.Option.{option_map_or}

count_bytes : AtMost 10 number_value is_count
count_bytes = number_bytes 10 (2 ^ 32 - 1) (lit< tt) (lit< tt) (lit< tt)

card_bytes : AtMost 2 number_value is_card
card_bytes = number_bytes 2 51 (lit< tt) (lit< tt) (lit< tt)

-- the last member of an object
last_bytes : (name : List ℕ) (d : Data) (held : ℕ) → is_plain name ≡ true → length (compact_text d) ≤ held → length (members_text true (member name d no_members)) ≤ 2 * length name + 2 + held + 3
last_bytes name d held plain is = omega (arith, member_bytes true name d no_members (2 * length name + 2) held 1 (quoted_bytes name plain) is (lit≤ tt))

-- a member before others
next_bytes : (later : Bool) (name : List ℕ) (d : Data) (ms : Members) (held others : ℕ) → is_plain name ≡ true → length (compact_text d) ≤ held → length (members_text true ms) ≤ others
    → length (members_text later (member name d ms)) ≤ 2 * length name + 2 + held + others + 2
next_bytes later name d ms held others plain is more = member_bytes later name d ms (2 * length name + 2) held others (quoted_bytes name plain) is more

lone_bytes : (name : List ℕ) (d : Data) (held : ℕ) → is_plain name ≡ true → length (compact_text d) ≤ held → length (compact_text (object (member name d no_members))) ≤ 2 * length name + held + 6
lone_bytes name d held plain is = omega (arith, next_bytes false name d no_members held 1 plain is (lit≤ tt))

split_bytes : {C S P : Type 0} (common_value : C → Data) (secret_value : S → Data) (player_value : P → Data) (g : Split C S P) (common players secret : ℕ)
    → length (compact_text (common_value g.common)) ≤ common → length (compact_text (list_value (option_value player_value) g.players)) ≤ players → length (compact_text (option_value secret_value g.secret)) ≤ secret
    → length (compact_text (split_value common_value secret_value player_value g)) ≤ common + players + secret + 100
split_bytes common_value secret_value player_value g common players secret c p s =
    let last = last_bytes (codes "secret") (option_value secret_value g.secret) secret refl s in
    let middle = next_bytes true (codes "players") (list_value (option_value player_value) g.players) (member (codes "secret") (option_value secret_value g.secret) no_members) players (secret + 17) refl p (omega (arith, last)) in
    omega (arith, next_bytes false (codes "common") (common_value g.common) (from_players secret_value player_value g.players g.secret) common (players + secret + 40) refl c (omega (arith, middle)))

-- ---- games of sealed items

seats_few : (most players : ℕ) (shown : Option ℕ) → are_seats most players shown ≡ true → (players ≤ most) × (unwrap_or shown players ≡ players)
seats_few most players shown seats =
    let outer = and_parts (nat_le 1 players && nat_le players most) (unwrap_or shown players == players) seats in
    (leb-true players most (and_parts (nat_le 1 players) (nat_le players most) outer.0).1, eqb-true (unwrap_or shown players) players outer.1)

shown_bytes : {A : Type 0} (most each players : ℕ) (value : A → Data) (own : A → Bool) → AtMost each value own → (shown : Option (List A)) → players ≤ most → unwrap_or (option_map (λ items. length items) shown) players ≡ players
    → own_option (list_all own) shown ≡ true → length (compact_text (option_value (list_value value) shown)) ≤ (each + 1) * most + 4
shown_bytes most each players value own is None few same all = omega arith
shown_bytes most each players value own is (Some items) few same all = omega (arith, list_bytes most each value own is items (omega (arith, few, same)) all)

no_secret_bytes : (secret : Option _) → length (compact_text (option_value no_secret_value secret)) ≤ 4
no_secret_bytes None = lit≤ tt
no_secret_bytes (Some secret) = lit≤ tt

bid_bytes : AtMost 30 sealed_bid_value own_sealed_bid
bid_bytes entry own = omega (arith, lone_bytes (codes "bid") (option_value number_value entry.item) 10 refl (option_bytes 10 number_value is_count (lit≤ tt) count_bytes entry.item own))

bids_small : (g : Bids) → IsTrue (own_bids g) → IsSmall (bids_value g)
bids_small g own =
    let parts = parts_of have_bidders own_bidding own_no_secret own_sealed_bid g own in
    let seats = and_parts (length g.common.boasts == length g.players) (are_seats 8 (length g.players) (option_map (λ bids. length bids) g.common.revealed)) parts.seats in
    let few = seats_few 8 (length g.players) (option_map (λ bids. length bids) g.common.revealed) seats.1 in
    let common = and_parts (list_all is_count g.common.boasts) (own_option (list_all is_count) g.common.revealed) parts.own_common in
    let boasts = list_bytes 8 10 number_value is_count count_bytes g.common.boasts (omega (arith, few.0, eqb-true (length g.common.boasts) (length g.players) seats.0)) common.0 in
    let revealed = shown_bytes 8 10 (length g.players) number_value is_count count_bytes g.common.revealed few.0 few.1 common.1 in
    let last = last_bytes (codes "revealed") (option_value (list_value number_value) g.common.revealed) 92 refl revealed in
    let all = next_bytes false (codes "boasts") (list_value number_value g.common.boasts) (member (codes "revealed") (option_value (list_value number_value) g.common.revealed) no_members) 90 200 refl boasts (omega (arith, last)) in
    let players = list_bytes 8 30 (option_value sealed_bid_value) (own_option own_sealed_bid) (option_bytes 30 sealed_bid_value own_sealed_bid (lit≤ tt) bid_bytes) g.players few.0 parts.own_players in
    omega (arith, split_bytes bidding_value no_secret_value sealed_bid_value g 400 250 4 (omega (arith, all)) players (no_secret_bytes g.secret))

written_bytes : AtMost 144 sealed_text_value own_sealed_text
written_bytes entry own = omega (arith, lone_bytes (codes "text") (option_value text_value entry.item) 130 refl (option_bytes 130 text_value is_short (lit≤ tt) text_bytes entry.item own))

texts_small : (g : Texts) → IsTrue (own_texts g) → IsSmall (texts_value g)
texts_small g own =
    let parts = parts_of have_writers own_shown own_no_secret own_sealed_text g own in
    let few = seats_few 16 (length g.players) (option_map (λ texts. length texts) g.common.revealed) parts.seats in
    let revealed = shown_bytes 16 130 (length g.players) text_value is_short text_bytes g.common.revealed few.0 few.1 parts.own_common in
    let common = lone_bytes (codes "revealed") (option_value (list_value text_value) g.common.revealed) 2100 refl revealed in
    let players = list_bytes 16 144 (option_value sealed_text_value) (own_option own_sealed_text) (option_bytes 144 sealed_text_value own_sealed_text (lit≤ tt) written_bytes) g.players few.0 parts.own_players in
    omega (arith, split_bytes shown_value no_secret_value sealed_text_value g 2200 2322 4 (omega (arith, common)) players (no_secret_bytes g.secret))

-- ---- High Hand

cards_bytes : (cards : List ℕ) → are_cards cards ≡ true → length (compact_text (list_value number_value cards)) ≤ 158
cards_bytes cards own =
    let parts = and_parts (are_few cards) (list_all is_card cards) own in
    list_bytes 52 2 number_value is_card card_bytes cards (leb-true (length cards) 52 parts.0) parts.1

hand_bytes : AtMost 172 hand_value own_hand
hand_bytes hand own = omega (arith, lone_bytes (codes "hand") (list_value number_value hand.cards) 158 refl (cards_bytes hand.cards own))

deck_bytes : AtMost 172 deck_value own_deck
deck_bytes deck own = omega (arith, lone_bytes (codes "deck") (list_value number_value deck.cards) 158 refl (cards_bytes deck.cards own))

cards_small : (g : Cards) → IsTrue (own_state g) → IsSmall (cards_value g)
cards_small g own =
    let parts = parts_of have_places own_table own_deck own_hand g own in
    let seats = length g.players in
    let with_places = and_parts (nat_le 1 seats && nat_le seats 8 && (length g.common.hands == seats) && (length g.common.scores == seats)) (length g.common.places == seats) parts.seats in
    let with_scores = and_parts (nat_le 1 seats && nat_le seats 8 && (length g.common.hands == seats)) (length g.common.scores == seats) with_places.0 in
    let with_hands = and_parts (nat_le 1 seats && nat_le seats 8) (length g.common.hands == seats) with_scores.0 in
    let few : seats ≤ 8 = leb-true seats 8 (and_parts (nat_le 1 seats) (nat_le seats 8) with_hands.0).1 in
    let t = g.common in
    let to_scores = and_parts (list_all is_count t.hands && is_count t.left && list_all is_count t.scores) (list_all (own_option is_card) t.places) parts.own_common in
    let to_left = and_parts (list_all is_count t.hands && is_count t.left) (list_all is_count t.scores) to_scores.0 in
    let to_hands = and_parts (list_all is_count t.hands) (is_count t.left) to_left.0 in
    let hands = list_bytes 8 10 number_value is_count count_bytes t.hands (omega (arith, few, eqb-true (length t.hands) seats with_hands.1)) to_hands.0 in
    let scores = list_bytes 8 10 number_value is_count count_bytes t.scores (omega (arith, few, eqb-true (length t.scores) seats with_scores.1)) to_left.1 in
    let places = list_bytes 8 4 (option_value number_value) (own_option is_card) (option_bytes 4 number_value is_card (lit≤ tt) place_bytes) t.places (omega (arith, few, eqb-true (length t.places) seats with_places.1)) to_scores.1 in
    let on_table = member (codes "table") (list_value (option_value number_value) t.places) no_members in
    let last = last_bytes (codes "table") (list_value (option_value number_value) t.places) 42 refl places in
    let third = next_bytes true (codes "scores") (list_value number_value t.scores) on_table 90 60 refl scores (omega (arith, last)) in
    let second = next_bytes true (codes "left") (number_value t.left) (from_scores t.scores t.places) 10 200 refl (count_bytes t.left to_hands.1) (omega (arith, third)) in
    let first = next_bytes false (codes "hands") (list_value number_value t.hands) (member (codes "left") (number_value t.left) (from_scores t.scores t.places)) 90 300 refl hands (omega (arith, second)) in
    let players = list_bytes 8 172 (option_value hand_value) (own_option own_hand) (option_bytes 172 hand_value own_hand (lit≤ tt) hand_bytes) g.players few parts.own_players in
    omega (arith, split_bytes table_value deck_value hand_value g 500 1400 172 (omega (arith, first)) (omega (arith, players)) (option_bytes 172 deck_value own_deck (lit≤ tt) deck_bytes g.secret parts.own_secret))
  where
    place_bytes : AtMost 4 number_value is_card
    place_bytes n own = omega (arith, card_bytes n own)

-- ---- games in which all is open

seat_bytes : (most : ℕ) → most < 10 → AtMost 4 seat_value (is_seat most)
seat_bytes most small None own = lit≤ tt
seat_bytes most small (Some seat) own = omega (arith, number_bytes 1 most (lit< tt) (omega (arith, small)) (omega (arith, small)) seat own)

board_small : (b : Board) → IsTrue (board_form.own b) → IsSmall (board_form.value b)
board_small b own =
    let parts = and_parts (is_between 9 9 (length b.cells)) (list_all (is_seat 1) b.cells) own in
    let few : length b.cells ≤ 9 = leb-true (length b.cells) 9 (and_parts (nat_le 9 (length b.cells)) (nat_le (length b.cells) 9) parts.0).1 in
    omega (arith, lone_bytes (codes "cells") (list_value seat_value b.cells) 47 refl (list_bytes 9 4 seat_value (is_seat 1) (seat_bytes 1 (lit< tt)) b.cells few parts.1))

heap_small : (h : Heap) → IsTrue (heap_form.own h) → IsSmall (heap_form.value h)
heap_small h own =
    let parts = and_parts (nat_le h.left greatest) (is_seat 7 h.last) own in
    let last = last_bytes (codes "last") (seat_value h.last) 4 refl (seat_bytes 7 (lit< tt) h.last parts.1) in
    omega (arith, next_bytes false (codes "heap") (number_value h.left) (member (codes "last") (seat_value h.last) no_members) 10 100 refl (count_bytes h.left parts.0) (omega (arith, last)))

points_small : (p : Points) → IsTrue (points_form.own p) → IsSmall (points_form.value p)
points_small p own =
    let parts = and_parts (nat_le p.pot greatest) (is_between 1 8 (length p.totals) && list_all (λ n. nat_le n greatest) p.totals) own in
    let totals = and_parts (is_between 1 8 (length p.totals)) (list_all (λ n. nat_le n greatest) p.totals) parts.1 in
    let few : length p.totals ≤ 8 = leb-true (length p.totals) 8 (and_parts (nat_le 1 (length p.totals)) (nat_le (length p.totals) 8) totals.0).1 in
    let last = last_bytes (codes "totals") (list_value number_value p.totals) 90 refl (list_bytes 8 10 number_value is_count count_bytes p.totals few totals.1) in
    omega (arith, next_bytes false (codes "pot") (number_value p.pot) (member (codes "totals") (list_value number_value p.totals) no_members) 10 200 refl (count_bytes p.pot parts.0) (omega (arith, last)))

-- ---- all of them

of_own : {G : Type 0} (own : G → Bool) (value : G → Data) (other : Data) (g : Option G) → ((x : G) → IsTrue (own x) → IsSmall (value x)) → IsTrue (option_map_or own g false) → IsSmall (option_map_or value g other)
of_own own value other None small is = absurd (false≢true is)
of_own own value other (Some g) small is = small g is

pub own_states_are_small : (kind : GameKind) (g : AnyG) → IsTrue ((any_rules kind).own g) → IsSmall ((any_rules kind).value g)
own_states_are_small TicTacToe g = of_own board_form.own board_form.value (any_value g) (as_board g) board_small
own_states_are_small Countdown g = of_own heap_form.own heap_form.value (any_value g) (as_heap g) heap_small
own_states_are_small Pig g = of_own points_form.own points_form.value (any_value g) (as_points g) points_small
own_states_are_small (HighHand deck) g = of_own own_state cards_value (any_value g) (as_cards g) cards_small
own_states_are_small BlindBid g = of_own own_bids bids_value (any_value g) (as_bids g) bids_small
own_states_are_small Captions g = of_own own_texts texts_value (any_value g) (as_texts g) texts_small
