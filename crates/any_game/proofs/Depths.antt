-- The own states of the six games are written as values that are nested at most 4 deep.
use Rattle.std.proofs.Common.{◌≤◌, ◌+◌, ℕ, Bool, false, IsTrue, List, [], ◌∷◌, map, Option, Some, None, arith}
use Rattle.std.proofs.lemmas.Bool.{false≢true}
use Rattle.any_game.specs.AnyRules.{any_rules}
use Rattle.any_game.specs.GameKind.{GameKind, TicTacToe, Countdown, Pig, HighHand, BlindBid, Captions}
use Rattle.any_game.specs.Values.{any_value, as_bids, as_board, as_cards, as_heap, as_points, as_texts}
use Rattle.any_game.specs.declared.any_g.AnyG.{AnyG}
use Rattle.card_games.specs.Parts.{bidding_value, bids_value, cards_value, deck_value, hand_value, list_value, no_secret_value, number_value, option_value, own_bids, own_state, own_texts, sealed_bid_value, sealed_text_value, shown_value, split_value, table_value, text_value, texts_value}
use Rattle.open_game.specs.Forms.{seat_value}
use Rattle.serde_json.specs.Data.{Data, depth, items_depth}
use Rattle.serde_json.specs.View.{items_of}
use Rattle.table_states.specs.StateForms.{board_form, heap_form, points_form}
use Rattle.std.specs.Option.{option_map_or}

-- each value is nested at most so deep
abbrev Within : {A : Type 0} → ℕ → (A → Data) → Type 0
Within {A = A} most value = (x : A) → depth (value x) ≤ most

of_option : {A : Type 0} (most : ℕ) (value : A → Data) → Within most value → Within most (option_value value)
of_option most value each None = omega arith
of_option most value each (Some x) = each x

of_items : {A : Type 0} (most : ℕ) (value : A → Data) → Within most value → (xs : List A) → items_depth (items_of (map value xs)) ≤ most
of_items most value each [] = omega arith
of_items most value each (x ∷ xs) = omega (arith, each x, of_items most value each xs)

of_list : {A : Type 0} (most : ℕ) (value : A → Data) → Within most value → Within (most + 1) (list_value value)
of_list most value each xs = omega (arith, of_items most value each xs)

of_number : Within 0 number_value
of_number n = omega arith

of_text : Within 0 text_value
of_text text = omega arith

of_seat : Within 0 seat_value
of_seat None = omega arith
of_seat (Some seat) = omega arith

of_no_secret : Within 0 no_secret_value
of_no_secret secret = omega arith

of_split : {C S P : Type 0} (common : C → Data) (secret : S → Data) (player : P → Data) → Within 2 common → Within 2 secret → Within 2 player → Within 4 (split_value common secret player)
of_split common secret player c s p g =
    omega (arith, c g.common, of_list 2 (option_value player) (of_option 2 player p) g.players, of_option 2 secret s g.secret)

of_board : Within 4 board_form.value
of_board b = omega (arith, of_list 0 seat_value of_seat b.cells)

of_heap : Within 4 heap_form.value
of_heap h = omega (arith, of_seat h.last)

of_points : Within 4 points_form.value
of_points p = omega (arith, of_list 0 number_value of_number p.totals)

of_table : Within 2 table_value
of_table t =
    omega (arith, of_list 0 number_value of_number t.hands, of_list 0 number_value of_number t.scores, of_list 0 (option_value number_value) (of_option 0 number_value of_number) t.places)

of_deck : Within 2 deck_value
of_deck d = omega (arith, of_list 0 number_value of_number d.cards)

of_hand : Within 2 hand_value
of_hand h = omega (arith, of_list 0 number_value of_number h.cards)

of_bidding : Within 2 bidding_value
of_bidding b = omega (arith, of_list 0 number_value of_number b.boasts, of_option 1 (list_value number_value) (of_list 0 number_value of_number) b.revealed)

of_bid : Within 2 sealed_bid_value
of_bid entry = omega (arith, of_option 0 number_value of_number entry.item)

of_shown : Within 2 shown_value
of_shown shown = omega (arith, of_option 1 (list_value text_value) (of_list 0 text_value of_text) shown.revealed)

of_written : Within 2 sealed_text_value
of_written entry = omega (arith, of_option 0 text_value of_text entry.item)

of_cards : Within 4 cards_value
of_cards g = of_split table_value deck_value hand_value of_table of_deck of_hand g

of_bids : Within 4 bids_value
of_bids g = of_split bidding_value no_secret_value sealed_bid_value of_bidding (λ secret. omega (arith, of_no_secret secret)) of_bid g

of_texts : Within 4 texts_value
of_texts g = of_split shown_value no_secret_value sealed_text_value of_shown (λ secret. omega (arith, of_no_secret secret)) of_written g

of_own : {G : Type 0} (own : G → Bool) (value : G → Data) (other : Data) (g : Option G) → Within 4 value → IsTrue (option_map_or own g false) → depth (option_map_or value g other) ≤ 125
of_own own value other None low is = absurd (false≢true is)
of_own own value other (Some g) low is = omega (arith, low g)

pub all_are_shallow : (kind : GameKind) (g : AnyG) → IsTrue ((any_rules kind).own g) → depth ((any_rules kind).value g) ≤ 125
all_are_shallow TicTacToe g = of_own board_form.own board_form.value (any_value g) (as_board g) of_board
all_are_shallow Countdown g = of_own heap_form.own heap_form.value (any_value g) (as_heap g) of_heap
all_are_shallow Pig g = of_own points_form.own points_form.value (any_value g) (as_points g) of_points
all_are_shallow (HighHand deck) g = of_own own_state cards_value (any_value g) (as_cards g) of_cards
all_are_shallow BlindBid g = of_own own_bids bids_value (any_value g) (as_bids g) of_bids
all_are_shallow Captions g = of_own own_texts texts_value (any_value g) (as_texts g) of_texts
