-- High Hand: two to four seats draw two cards each and lay them one by one; the highest card on a full table scores a point, and the greatest score wins.
use Rattle.std.specs.Prelude.{ℕ, ◌+◌, ◌-◌, ◌^◌, ◌==◌, ◌&&◌, min, nat_eq, nat_le, nat_lt, true, false, Bool, if◌then◌else◌, pos, List, [], ◌∷◌, ◌++◌, length, replicate, remove, slice_get, slice_index, slice_set, codes, is_some, is_none, unwrap_or, Option, Some, None, zero, suc}
use Rattle.std.specs.List.{list_all}
use Rattle.card_games.specs.Greatest.{first_greatest, one_greatest}
use Rattle.card_games.specs.Json.{apply, count_form, each, or_none, read_object, split_form, where_holds}
use Rattle.card_games.specs.Pack.{are_few, pack}
use Rattle.card_games.specs.declared.cards.CardTable.{CardTable}
use Rattle.card_games.specs.declared.cards.Deck.{Deck}
use Rattle.card_games.specs.declared.cards.Hand.{Hand}
use Rattle.card_games.specs.declared.dealt.Dealt.{Dealt}
use Rattle.dice_words.specs.Dice.{shuffled}
use Rattle.game_sheet.specs.declared.act.EventKind.TheVariants.{EndTurn}
use Rattle.game_sheet.specs.declared.act.Outcome.{Outcome}
use Rattle.game_sheet.specs.declared.args.Arg.{Arg}
use Rattle.game_sheet.specs.declared.args.Arg.TheVariants.{Whole}
use Rattle.game_sheet.specs.declared.sheet.Order.TheVariants.{Default, Once, Reset}
use Rattle.game_sheet.specs.declared.sheet.Sheet.{Sheet}
use Rattle.game_trait.specs.Deed.{Barred, Deed, Done, GaveUp, Invalid, Lack, Spent}
use Rattle.game_trait.specs.Offers.{offered}
use Rattle.game_trait.specs.Rules.{Rules, plain}
use Rattle.open_game.specs.Form.{Form}
use Rattle.open_game.specs.Sheets.{blank_sheet}
use Rattle.open_game.specs.Forms.{member_read, natural, object_of_one}
use Rattle.secret_strip.specs.Strip.{strip}
use Rattle.secret_strip.specs.declared.split.Split.{Split}
use Rattle.serde_json.specs.Data.{object, member, no_members}
use Rattle.std.specs.Option.{option_map_or}

-- everybody sees the table, each seat its own hand, and nobody the deck
abbrev pub Cards : Type 0
Cards = Split CardTable Deck Hand

-- in the first phase each seat draws twice, once round; in the second they lay
abbrev pub high_hand_sheet : Sheet
high_hand_sheet = record (blank_sheet (codes "high-hand") 2 4 (record { order = Default; min_moves = 0; max_moves = None; active = None })) {
  moves =
      record { name = codes "draw"; redact = false; client = false; no_limit = false; ignore_stale = false }
      ∷ record { name = codes "lay"; redact = false; client = true; no_limit = false; ignore_stale = false }
      ∷ [];
  phases =
      record { name = codes "draw"; start = true; next = Some 1; moves = Some (0 ∷ []); turn = Some (record { order = Once; min_moves = 2; max_moves = Some 2; active = None }) }
      ∷ record { name = codes "play"; start = false; next = None; moves = Some (1 ∷ []); turn = Some (record { order = Reset; min_moves = 1; max_moves = None; active = None }) }
      ∷ [];
  events = EndTurn ∷ [];
}

-- the state before the first draw from a deck
abbrev pub before_draws : ℕ → List ℕ → Cards
before_draws seats deck = record {
  common = record { hands = replicate seats 0; left = 52; scores = replicate seats 0; places = replicate seats None };
  secret = Some (record { cards = deck });
  players = replicate seats (Some (record { cards = [] }));
}

-- a match begins with a shuffled pack, or with a deck in the order in which it was dealt
abbrev pub opened : ℕ → Option (List ℕ × List ℕ) → Deed Cards Lack
opened seats None = GaveUp Spent
opened seats (Some (deck, words)) = Done (before_draws seats deck) words []

abbrev pub set_up : Option Dealt → ℕ → List ℕ → Deed Cards Lack
set_up None seats words = opened seats (shuffled pack words)
set_up (Some deck) seats words = Done (before_draws seats deck.cards) words []

-- the hand of a seat, where it is there
abbrev pub hand_in : Option (Option Hand) → Option (List ℕ)
hand_in (Some (Some hand)) = Some hand.cards
hand_in _ = None

abbrev pub hand_of : Cards → ℕ → Option (List ℕ)
hand_of g seat = hand_in (slice_get g.players seat)

-- the state in which a seat has this hand, of which everybody sees the count
abbrev pub with_hand : Cards → ℕ → List ℕ → Cards
with_hand g seat hand = record g {
  common = record g.common { hands = slice_set g.common.hands seat (length hand) };
  players = slice_set g.players seat (Some (record { cards = hand }));
}

-- the state with this deck, of which everybody sees the count
abbrev pub with_deck : Cards → List ℕ → Cards
with_deck g deck = record g { common = record g.common { left = length deck }; secret = Some (record { cards = deck }) }

-- the first card of the deck goes to the end of the mover's hand
abbrev pub draw_to : Cards → ℕ → Option (List ℕ) → List ℕ → List ℕ → Deed Cards Barred
draw_to g seat None deck words = GaveUp Invalid
draw_to g seat (Some hand) [] words = GaveUp Invalid
draw_to g seat (Some hand) (card ∷ deck) words = if are_few (hand ++ card ∷ []) && are_few deck then Done (with_deck (with_hand g seat (hand ++ card ∷ [])) deck) words [] else GaveUp Invalid

abbrev pub draw : Cards → ℕ → List Arg → List ℕ → Deed Cards Barred
draw g seat [] words = draw_to g seat (hand_of g seat) (option_map_or (λ deck. deck.cards) g.secret []) words
draw g seat (_ ∷ _) words = GaveUp Invalid

-- a seat's place on the table is free
abbrev pub is_free : Option (Option ℕ) → Bool
is_free (Some None) = true
is_free _ = false

-- the state in which this card of a seat lies on the table, and this hand is left to it
abbrev pub laid : Cards → ℕ → ℕ → List ℕ → Cards
laid g seat card hand = let after : Cards = with_hand g seat hand in record after { common = record after.common { places = slice_set g.common.places seat (Some card) } }

-- a card of the mover goes to its free place on the table, and this hand is left to it
abbrev pub lay_down : Cards → ℕ → ℕ → List ℕ → List ℕ → Deed Cards Barred
lay_down g seat card left words = if are_few left && is_free (slice_get g.common.places seat) then Done (laid g seat card left) words [] else GaveUp Invalid

abbrev pub lay_card : Cards → ℕ → ℕ → List ℕ → Option ℕ → List ℕ → Deed Cards Barred
lay_card g seat place hand None words = GaveUp Invalid
lay_card g seat place hand (Some card) words = lay_down g seat card (remove hand place) words

abbrev pub lay_from : Cards → ℕ → ℕ → Option (List ℕ) → List ℕ → Deed Cards Barred
lay_from g seat place None words = GaveUp Invalid
lay_from g seat place (Some hand) words = lay_card g seat place hand (slice_get hand place) words

-- the one argument is the card's place in the hand
abbrev pub lay : Cards → ℕ → List Arg → List ℕ → Deed Cards Barred
lay g seat (Whole (pos place) ∷ []) words = lay_from g seat place (hand_of g seat) words
lay g seat _ words = GaveUp Invalid

abbrev pub card_move : Cards → ℕ → ℕ → List Arg → List ℕ → Deed Cards Barred
card_move g seat id args words = if nat_lt seat 4 then (if nat_eq id 0 then draw g seat args words else lay g seat args words) else GaveUp Invalid

-- a point more at a place, unless that is past what 32 bits hold
abbrev pub point_at : Option ℕ → List ℕ → List ℕ
point_at found scores = option_map_or (λ place. slice_set scores place (min (slice_index scores place + 1) (2 ^ 32 - 1))) found scores

-- what a place of the table counts for, or 0
abbrev pub height : Option ℕ → ℕ
height place = unwrap_or place 0

-- a full table is cleared, and the least seat with the highest card has a point more
abbrev pub scored : Cards → Cards
scored g = record g {
  common = record g.common { scores = point_at (first_greatest height g.common.places) g.common.scores; places = replicate (length g.common.places) None };
}

abbrev pub is_full : List (Option ℕ) → Bool
is_full places = list_all (λ place. is_some place) places

abbrev pub after_turn : Cards → Cards
after_turn g = if is_full g.common.places then scored g else g

abbrev pub are_empty : List ℕ → Bool
are_empty hands = list_all (λ count. count == 0) hands

abbrev pub is_clear : List (Option ℕ) → Bool
is_clear places = list_all (λ place. is_none place) places

-- in the second phase every hand is empty and so is the table
abbrev pub is_played : Cards → Option ℕ → Bool
is_played g phase = option_map_or (λ phase. nat_eq phase 1 && are_empty g.common.hands && is_clear g.common.places) phase false

-- then the one seat with the greatest score wins; two such scores are a draw
abbrev pub card_end : Cards → Option ℕ → Option Outcome
card_end g phase = if is_played g phase then Some (one_greatest (λ score. score) g.common.scores) else None

-- the moves that lay one of so many cards, each by its place
abbrev pub lays : ℕ → List (ℕ × List Arg)
lays zero = []
lays (suc place) = lays place ++ (1, Whole (pos place) ∷ []) ∷ []

abbrev pub lay_offers : Cards → ℕ → Option (List ℕ) → List (ℕ × List Arg)
lay_offers g seat found = option_map_or (λ hand. if are_few hand && is_free (slice_get g.common.places seat) then lays (length hand) else []) found []

-- in the first phase a seat is offered the draw, and in the second each card of its hand where its place on the table is free
abbrev pub card_offers : Cards → ℕ → Option ℕ → List (ℕ × List Arg)
card_offers g seat None = []
card_offers g seat (Some phase) = if nat_eq phase 0 then (0, []) ∷ [] else (if nat_eq phase 1 then lay_offers g seat (hand_of g seat) else [])

-- one to eight seats have an entry, a count of cards, a score and a place on the table each
abbrev pub are_places : ℕ → ℕ → ℕ → ℕ → Bool
are_places players hands scores places = nat_le 1 players && nat_le players 8 && (hands == players) && (scores == players) && (places == players)

abbrev pub have_places : Cards → Bool
have_places g = are_places (length g.players) (length g.common.hands) (length g.common.scores) (length g.common.places)

abbrev pub card_form : Form ℕ
card_form = natural 51

-- the cards of a hand or a deck
abbrev pub pile_form : Form (List ℕ)
pile_form = where_holds are_few (each card_form)

abbrev pub hand_form : Form Hand
hand_form = object_of_one (codes "hand") pile_form (λ cards. record { cards = cards }) (λ h. h.cards)

abbrev pub deck_form : Form Deck
deck_form = object_of_one (codes "deck") pile_form (λ cards. record { cards = cards }) (λ d. d.cards)

abbrev pub table_form : Form CardTable
table_form = record {
  own = λ t. (each count_form).own t.hands && count_form.own t.left && (each count_form).own t.scores && (each (or_none card_form)).own t.places;
  value = λ t. object (member (codes "hands") ((each count_form).value t.hands) (member (codes "left") (count_form.value t.left)
      (member (codes "scores") ((each count_form).value t.scores) (member (codes "table") ((each (or_none card_form)).value t.places) no_members))));
  read = read_object (codes "hands" ∷ codes "left" ∷ codes "scores" ∷ codes "table" ∷ []) (λ v. apply (apply (apply (apply
      (Some (λ hands left scores places. record { hands = hands; left = left; scores = scores; places = places }))
      (member_read (each count_form).read (codes "hands") v)) (member_read count_form.read (codes "left") v))
      (member_read (each count_form).read (codes "scores") v)) (member_read (each (or_none card_form)).read (codes "table") v));
}

abbrev pub cards_form : Form Cards
cards_form = where_holds have_places (split_form table_form (each (or_none hand_form)) (or_none deck_form))

-- the game of a deck in a fixed order, or of shuffled packs
abbrev pub high_hand : Option Dealt → Rules Cards
high_hand deck = record (plain high_hand_sheet (set_up deck) (λ g ctx seat id args words. card_move g seat id args words) cards_form.own cards_form.value cards_form.read) {
  turn_end = λ g ctx words. Done (after_turn g) words [];
  end_if = λ g ctx. card_end g ctx.phase;
  view = λ g ctx viewer. strip g viewer;
  undoable = λ g ctx id. nat_eq id 1;
  options = λ g ctx seat. offered ctx seat (card_offers g seat ctx.phase);
}
