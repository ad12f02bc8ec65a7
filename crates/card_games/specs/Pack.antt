-- The cards: 52 of them, from 0 to 51, of which the greater number is the higher card.
use Rattle.std.specs.Prelude.{ℕ, ◌&&◌, nat_le, Bool, List, [], ◌∷◌, length}
use Rattle.std.specs.List.{list_all}

abbrev pub pack : List ℕ
pack = 0 ∷ 1 ∷ 2 ∷ 3 ∷ 4 ∷ 5 ∷ 6 ∷ 7 ∷ 8 ∷ 9 ∷ 10 ∷ 11 ∷ 12
    ∷ 13 ∷ 14 ∷ 15 ∷ 16 ∷ 17 ∷ 18 ∷ 19 ∷ 20 ∷ 21 ∷ 22 ∷ 23 ∷ 24 ∷ 25
    ∷ 26 ∷ 27 ∷ 28 ∷ 29 ∷ 30 ∷ 31 ∷ 32 ∷ 33 ∷ 34 ∷ 35 ∷ 36 ∷ 37 ∷ 38
    ∷ 39 ∷ 40 ∷ 41 ∷ 42 ∷ 43 ∷ 44 ∷ 45 ∷ 46 ∷ 47 ∷ 48 ∷ 49 ∷ 50 ∷ 51
    ∷ []

-- a hand and a deck have at most 52 cards; where a state that isn't own has more, no card of them is drawn, laid or offered, so that each count fits its number
abbrev pub are_few : List ℕ → Bool
are_few cards = nat_le (length cards) 52

abbrev pub is_card : ℕ → Bool
is_card card = nat_le card 51

-- and each of them is one of the pack's
abbrev pub are_cards : List ℕ → Bool
are_cards cards = are_few cards && list_all is_card cards
