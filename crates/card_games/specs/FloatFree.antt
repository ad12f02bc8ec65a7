-- No part of these games' states has a float: the proofs that each part keeps this law, which no other definition cites.
use Rattle.std.specs.Prelude.{◌≡◌, ℕ, Bool, false, ◌||◌, List, [], ◌∷◌, map, codes, Option, Some, None, refl}
use Rattle.card_games.specs.BlindBid.{Bids}
use Rattle.card_games.specs.Captions.{Texts}
use Rattle.card_games.specs.HighHand.{Cards}
use Rattle.card_games.specs.Parts.{bidding_value, bids_value, cards_value, deck_value, hand_value, list_value, lone_value, no_secret_value, number_value, option_value, sealed_bid_value, sealed_text_value, shown_value, split_value, table_value, text_value, texts_value}
use Rattle.card_games.specs.declared.bids.Bidding.{Bidding}
use Rattle.card_games.specs.declared.cards.CardTable.{CardTable}
use Rattle.card_games.specs.declared.cards.Deck.{Deck}
use Rattle.card_games.specs.declared.cards.Hand.{Hand}
use Rattle.card_games.specs.declared.sealed.Sealed.{Sealed}
use Rattle.card_games.specs.declared.texts.Shown.{Shown}
use Rattle.secret_strip.specs.declared.split.Split.{Split}
use Rattle.serde_json.specs.Data.{Data}
use Rattle.serde_json.specs.View.{items_of}
use Rattle.serde_json.specs.Written.{has_float, items_have_float}
use Rattle.std.proofs.Common.{ap, ◌∙◌}

neither : (a b : Bool) → a ≡ false → b ≡ false → (a || b) ≡ false
neither a b p q = ap (λ x. x || b) p ∙ q

pub number_float_free : (n : ℕ) → has_float (number_value n) ≡ false
number_float_free n = refl

pub text_float_free : (text : List ℕ) → has_float (text_value text) ≡ false
text_float_free text = refl

pub option_float_free : {A : Type 0} (value : A → Data) → ((x : A) → has_float (value x) ≡ false) → (o : Option A) → has_float (option_value value o) ≡ false
option_float_free value each None = refl
option_float_free value each (Some x) = each x

pub list_float_free : {A : Type 0} (value : A → Data) → ((x : A) → has_float (value x) ≡ false) → (items : List A) → has_float (list_value value items) ≡ false
list_float_free value each [] = refl
list_float_free value each (x ∷ items) = neither (has_float (value x)) (items_have_float (items_of (map value items))) (each x) (list_float_free value each items)

lone_float_free : {A : Type 0} (name : List ℕ) (value : A → Data) → ((x : A) → has_float (value x) ≡ false) → (x : A) → has_float (lone_value name value x) ≡ false
lone_float_free name value each x = neither (has_float (value x)) _ (each x) refl

pub split_float_free : {C S P : Type 0} (common : C → Data) (secret : S → Data) (player : P → Data) → ((c : C) → has_float (common c) ≡ false) → ((s : S) → has_float (secret s) ≡ false) → ((p : P) → has_float (player p) ≡ false) → (g : Split C S P) → has_float (split_value common secret player g) ≡ false
split_float_free common secret player commons secrets entries g =
    neither (has_float (common g.common)) _ (commons g.common)
    (neither (has_float (list_value (option_value player) g.players)) _ (list_float_free (option_value player) (option_float_free player entries) g.players)
    (neither (has_float (option_value secret g.secret)) _ (option_float_free secret secrets g.secret) refl))

numbers_float_free : (numbers : List ℕ) → has_float (list_value number_value numbers) ≡ false
numbers_float_free = list_float_free number_value number_float_free

pub bidding_float_free : (b : Bidding) → has_float (bidding_value b) ≡ false
bidding_float_free b =
    neither (has_float (list_value number_value b.boasts)) _ (numbers_float_free b.boasts)
    (neither (has_float (option_value (list_value number_value) b.revealed)) _ (option_float_free (list_value number_value) numbers_float_free b.revealed) refl)

pub sealed_bid_float_free : (entry : Sealed ℕ) → has_float (sealed_bid_value entry) ≡ false
sealed_bid_float_free entry = lone_float_free (codes "bid") (option_value number_value) (option_float_free number_value number_float_free) entry.item

pub shown_float_free : (s : Shown) → has_float (shown_value s) ≡ false
shown_float_free s = lone_float_free (codes "revealed") (option_value (list_value text_value)) (option_float_free (list_value text_value) (list_float_free text_value text_float_free)) s.revealed

pub sealed_text_float_free : (entry : Sealed (List ℕ)) → has_float (sealed_text_value entry) ≡ false
sealed_text_float_free entry = lone_float_free (codes "text") (option_value text_value) (option_float_free text_value text_float_free) entry.item

pub table_float_free : (t : CardTable) → has_float (table_value t) ≡ false
table_float_free t =
    neither (has_float (list_value number_value t.hands)) _ (numbers_float_free t.hands)
    (neither (has_float (list_value number_value t.scores)) _ (numbers_float_free t.scores)
    (neither (has_float (list_value (option_value number_value) t.places)) _ (list_float_free (option_value number_value) (option_float_free number_value number_float_free) t.places) refl))

pub hand_float_free : (h : Hand) → has_float (hand_value h) ≡ false
hand_float_free h = lone_float_free (codes "hand") (list_value number_value) numbers_float_free h.cards

pub deck_float_free : (d : Deck) → has_float (deck_value d) ≡ false
deck_float_free d = lone_float_free (codes "deck") (list_value number_value) numbers_float_free d.cards

pub bids_float_free : (g : Bids) → has_float (bids_value g) ≡ false
bids_float_free g = split_float_free bidding_value no_secret_value sealed_bid_value bidding_float_free (λ _. refl) sealed_bid_float_free g

pub texts_float_free : (g : Texts) → has_float (texts_value g) ≡ false
texts_float_free g = split_float_free shown_value no_secret_value sealed_text_value shown_float_free (λ _. refl) sealed_text_float_free g

pub cards_float_free : (g : Cards) → has_float (cards_value g) ≡ false
cards_float_free g = split_float_free table_value deck_value hand_value table_float_free deck_float_free hand_float_free g
