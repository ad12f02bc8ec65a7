-- Names of what the forms of parts hold, by which contracts of the code and proofs cite them. What a game means is said by the forms alone.
use Rattle.std.specs.Prelude.{ℕ, ◌+◌, ◌-◌, ◌^◌, ◌&&◌, min, Bool, true, if◌then◌else◌, List, [], ◌∷◌, map, codes, is_some, option_and_then, option_map, Option, Some, None}
use Rattle.std.specs.List.{list_all}
use Rattle.card_games.specs.BlindBid.{Bids, bidding_form, bids_form}
use Rattle.card_games.specs.Captions.{Texts, shown_form, texts_form}
use Rattle.card_games.specs.HighHand.{Cards, card_form, cards_form, deck_form, hand_form, pile_form, table_form}
use Rattle.card_games.specs.Json.{apply, count_form, read_object, text_form}
use Rattle.card_games.specs.Sealed.{no_secret_form, sealed_form}
use Rattle.card_games.specs.declared.bids.Bidding.{Bidding}
use Rattle.card_games.specs.declared.cards.CardTable.{CardTable}
use Rattle.card_games.specs.declared.cards.Deck.{Deck}
use Rattle.card_games.specs.declared.cards.Hand.{Hand}
use Rattle.card_games.specs.declared.sealed.NoSecret.{NoSecret}
use Rattle.card_games.specs.declared.sealed.Sealed.{Sealed}
use Rattle.card_games.specs.declared.texts.Shown.{Shown}
use Rattle.game_sheet.specs.declared.args.Arg.{Arg}
use Rattle.game_sheet.specs.declared.args.Arg.TheVariants.{Text}
use Rattle.json_tree.specs.Fields.{read_each}
use Rattle.open_game.specs.Forms.{natural_read}
use Rattle.secret_strip.specs.declared.split.Split.{Split}
use Rattle.serde_json.specs.Data.{Data, null, array, object, Items, Members, member, no_members}
use Rattle.serde_json.specs.Find.{as_array, as_null, get}
use Rattle.serde_json.specs.View.{items_of}
use Rattle.std.specs.Option.{option_map_or}

-- ---- parts of any state

-- what passes a test
abbrev pub passing : {A : Type 0} → (A → Bool) → Option A → Option A
passing test found = option_and_then (λ x. if test x then Some x else None) found

abbrev pub number_value : ℕ → Data
number_value n = count_form.value n

abbrev pub read_number : ℕ → Data → Option ℕ
read_number most v = natural_read most v

abbrev pub is_count : ℕ → Bool
is_count n = count_form.own n

abbrev pub read_count : Data → Option ℕ
read_count v = count_form.read v

abbrev pub text_value : List ℕ → Data
text_value text = text_form.value text

abbrev pub option_value : {A : Type 0} → (A → Data) → Option A → Data
option_value value found = option_map_or value found null

abbrev pub read_option : {A : Type 0} → (Data → Option A) → Data → Option (Option A)
read_option read v = if is_some (as_null v) then Some None else option_map Some (read v)

abbrev pub own_option : {A : Type 0} → (A → Bool) → Option A → Bool
own_option own found = option_map_or own found true

abbrev pub list_value : {A : Type 0} → (A → Data) → List A → Data
list_value value items = array (items_of (map value items))

abbrev pub first_of : {A : Type 0} → Option A → Option (List A) → Option (List A)
first_of first rest = option_and_then (λ x. option_map (λ xs. x ∷ xs) rest) first

abbrev pub read_items : {A : Type 0} → (Data → Option A) → Items → Option (List A)
read_items read ds = read_each read ds

abbrev pub read_list : {A : Type 0} → (Data → Option A) → Data → Option (List A)
read_list read v = option_and_then (read_items read) (as_array v)

-- ---- objects

-- the member of an object with a name
abbrev pub read_member : {A : Type 0} → List ℕ → (Data → Option A) → Data → Option A
read_member name read v = option_and_then read (get name v)

abbrev pub lone_value : {A : Type 0} → List ℕ → (A → Data) → A → Data
lone_value name value x = object (member name (value x) no_members)

abbrev pub read_lone : {A : Type 0} → List ℕ → (Data → Option A) → Data → Option A
read_lone name read v = read_object (name ∷ []) (read_member name read) v

-- the members of a split state from its players on
abbrev pub from_players : {S P : Type 0} → (S → Data) → (P → Data) → List (Option P) → Option S → Members
from_players secret player players held = member (codes "players") (list_value (option_value player) players) (member (codes "secret") (option_value secret held) no_members)

abbrev pub split_value : {C S P : Type 0} → (C → Data) → (S → Data) → (P → Data) → Split C S P → Data
split_value common secret player g = object (member (codes "common") (common g.common) (from_players secret player g.players g.secret))

abbrev pub split_of : {C S P : Type 0} → C → List (Option P) → Option S → Split C S P
split_of common players secret = record { common = common; secret = secret; players = players }

abbrev pub split_names : List (List ℕ)
split_names = codes "common" ∷ codes "players" ∷ codes "secret" ∷ []

abbrev pub read_split : {C S P : Type 0} → (Data → Option C) → (Data → Option S) → (Data → Option P) → Data → Option (Split C S P)
read_split common secret player v = read_object split_names (λ d. apply (apply (apply (Some split_of) (read_member (codes "common") common d)) (read_member (codes "players") (read_list (read_option player)) d)) (read_member (codes "secret") (read_option secret) d)) v

abbrev pub own_split : {C S P : Type 0} → (C → Bool) → (S → Bool) → (P → Bool) → Split C S P → Bool
own_split common secret player g = common g.common && own_option secret g.secret && list_all (own_option player) g.players

-- ---- games of sealed items

abbrev pub no_secret_value : NoSecret → Data
no_secret_value s = no_secret_form.value s

abbrev pub read_no_secret : Data → Option NoSecret
read_no_secret v = no_secret_form.read v

abbrev pub own_no_secret : NoSecret → Bool
own_no_secret s = no_secret_form.own s

-- ---- Blind Bid

abbrev pub bidding_names : List (List ℕ)
bidding_names = codes "boasts" ∷ codes "revealed" ∷ []

abbrev pub bidding_value : Bidding → Data
bidding_value b = bidding_form.value b

abbrev pub read_bidding : Data → Option Bidding
read_bidding v = bidding_form.read v

abbrev pub own_bidding : Bidding → Bool
own_bidding b = bidding_form.own b

abbrev pub sealed_bid_value : Sealed ℕ → Data
sealed_bid_value entry = (sealed_form (codes "bid") count_form).value entry

abbrev pub read_sealed_bid : Data → Option (Sealed ℕ)
read_sealed_bid v = (sealed_form (codes "bid") count_form).read v

abbrev pub own_sealed_bid : Sealed ℕ → Bool
own_sealed_bid entry = (sealed_form (codes "bid") count_form).own entry

abbrev pub bids_value : Bids → Data
bids_value g = bids_form.value g

abbrev pub read_bids : Data → Option Bids
read_bids v = bids_form.read v

abbrev pub own_bids : Bids → Bool
own_bids g = bids_form.own g

-- ---- Captions

abbrev pub offered_texts : List Arg
offered_texts = Text (codes "one") ∷ Text (codes "two") ∷ []

abbrev pub shown_value : Shown → Data
shown_value s = shown_form.value s

abbrev pub read_shown : Data → Option Shown
read_shown v = shown_form.read v

abbrev pub own_shown : Shown → Bool
own_shown s = shown_form.own s

abbrev pub sealed_text_value : Sealed (List ℕ) → Data
sealed_text_value entry = (sealed_form (codes "text") text_form).value entry

abbrev pub read_sealed_text : Data → Option (Sealed (List ℕ))
read_sealed_text v = (sealed_form (codes "text") text_form).read v

abbrev pub own_sealed_text : Sealed (List ℕ) → Bool
own_sealed_text entry = (sealed_form (codes "text") text_form).own entry

abbrev pub texts_value : Texts → Data
texts_value g = texts_form.value g

abbrev pub read_texts : Data → Option Texts
read_texts v = texts_form.read v

abbrev pub own_texts : Texts → Bool
own_texts g = texts_form.own g

-- ---- High Hand

abbrev pub deck_in : Option Deck → List ℕ
deck_in secret = option_map_or (λ deck. deck.cards) secret []

-- a point more, unless that is past what 32 bits hold
abbrev pub one_more : ℕ → ℕ
one_more score = min (score + 1) (2 ^ 32 - 1)

abbrev pub read_card : Data → Option ℕ
read_card v = card_form.read v

abbrev pub read_cards : Data → Option (List ℕ)
read_cards v = pile_form.read v

abbrev pub table_names : List (List ℕ)
table_names = codes "hands" ∷ codes "left" ∷ codes "scores" ∷ codes "table" ∷ []

-- the members of a table from its scores on
abbrev pub from_scores : List ℕ → List (Option ℕ) → Members
from_scores scores places = member (codes "scores") (list_value number_value scores) (member (codes "table") (list_value (option_value number_value) places) no_members)

abbrev pub table_of : List ℕ → ℕ → List ℕ → List (Option ℕ) → CardTable
table_of hands left scores places = record { hands = hands; left = left; scores = scores; places = places }

-- the table of these counts whose scores and places an object holds
abbrev pub rest_of_table : List ℕ → ℕ → Data → Option CardTable
rest_of_table hands left d = apply (apply (Some (table_of hands left)) (read_member (codes "scores") (read_list read_count) d)) (read_member (codes "table") (read_list (read_option read_card)) d)

abbrev pub table_value : CardTable → Data
table_value t = table_form.value t

abbrev pub read_table : Data → Option CardTable
read_table v = table_form.read v

abbrev pub own_table : CardTable → Bool
own_table t = table_form.own t

abbrev pub hand_value : Hand → Data
hand_value h = hand_form.value h

abbrev pub read_hand : Data → Option Hand
read_hand v = hand_form.read v

abbrev pub own_hand : Hand → Bool
own_hand h = hand_form.own h

abbrev pub deck_value : Deck → Data
deck_value d = deck_form.value d

abbrev pub read_deck : Data → Option Deck
read_deck v = deck_form.read v

abbrev pub own_deck : Deck → Bool
own_deck d = deck_form.own d

abbrev pub cards_value : Cards → Data
cards_value g = cards_form.value g

abbrev pub read_state : Data → Option Cards
read_state v = cards_form.read v

abbrev pub own_state : Cards → Bool
own_state g = cards_form.own g
