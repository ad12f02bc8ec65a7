-- Pig: two to four seats roll a die into a pot until they hold it or lose it to a one; the first total of 20 wins.
use Rattle.std.specs.Prelude.{ℕ, ◌+◌, ◌^◌, nat_eq, nat_le, nat_lt, false, if◌then◌else◌, List, [], ◌∷◌, replicate, position, slice_get, slice_set, codes, option_map, Option, Some, None}
use Rattle.dice_words.specs.Dice.{die}
use Rattle.game_sheet.specs.declared.act.Event.{Event}
use Rattle.game_sheet.specs.declared.act.Event.TheVariants.{EndTurn}
use Rattle.game_sheet.specs.declared.act.Outcome.TheVariants.{Winner}
use Rattle.game_sheet.specs.declared.args.Arg.{Arg}
use Rattle.game_trait.specs.Deed.{Barred, Deed, Done, GaveUp, Invalid, Lacks, Spent, drawing}
use Rattle.open_game.specs.OpenRules.{OpenRules}
use Rattle.open_game.specs.Sheets.{turns_sheet}
use Rattle.table_states.specs.Points.{Points}
use Rattle.std.specs.Option.{option_map_or}

abbrev pub no_points : ℕ → Points
no_points seats = record { pot = 0; totals = replicate seats 0 }

-- a sum, where it is one of 32 bits
abbrev pub in_range : ℕ → Option ℕ
in_range sum = if nat_lt sum (2 ^ 32) then Some sum else None

-- a one empties the pot, and another face goes into it
abbrev pub pot_after : ℕ → ℕ → Option ℕ
pot_after pot face = if nat_eq face 1 then Some 0 else in_range (pot + face)

-- a one ends the turn
abbrev pub ended : ℕ → List Event
ended face = if nat_eq face 1 then EndTurn None ∷ [] else []

-- points that are made, if they are, with words left and events queued
abbrev pub scored : (ℕ → Points) → Option ℕ → List ℕ → List Event → Deed Points Barred
scored points sum words queued = option_map_or (λ n. Done (points n) words queued) sum (GaveUp Invalid)

abbrev pub rolled : Points → ℕ → List ℕ → Deed Points Barred
rolled p face words = scored (λ pot. record p { pot = pot }) (pot_after p.pot face) words (ended face)

abbrev pub roll : Points → List Arg → List ℕ → Deed Points Barred
roll p [] words = drawing (Lacks Spent) words (λ word rest. rolled p (die 6 word) rest)
roll p (_ ∷ _) words = GaveUp Invalid

-- the pot goes to the seat's total and the turn ends; there is something in the pot
abbrev pub hold : Points → ℕ → ℕ → List Arg → List ℕ → Deed Points Barred
hold p seat total [] words = if nat_eq p.pot 0 then GaveUp Invalid else scored (λ sum. record { pot = 0; totals = slice_set p.totals seat sum }) (in_range (total + p.pot)) words (EndTurn None ∷ [])
hold p seat total (_ ∷ _) words = GaveUp Invalid

-- the total of a seat that may play
abbrev pub total_of : Points → ℕ → Option ℕ
total_of p seat = if nat_lt seat 4 then slice_get p.totals seat else None

abbrev pub move_with : Points → ℕ → ℕ → List Arg → List ℕ → Option ℕ → Deed Points Barred
move_with p seat id args words total = option_map_or (λ total. if nat_eq id 0 then roll p args words else hold p seat total args words) total (GaveUp Invalid)

-- turns of one move or more
abbrev pub pig : OpenRules Points
pig = record {
  sheet = turns_sheet (codes "pig") 2 4 (codes "roll" ∷ codes "hold" ∷ []) (0 ∷ 1 ∷ []) None [];
  opening = no_points;
  play = λ p seat id args words. move_with p seat id args words (total_of p seat);
  -- the least seat with a total of 20 or more wins
  end_if = λ p. option_map Winner (position (λ total. nat_le 20 total) p.totals);
  may_undo = false;
  -- a roll, and a hold where there is something to hold
  offers = λ p seat. if nat_eq p.pot 0 then (0, []) ∷ [] else (0, []) ∷ (1, []) ∷ [];
}
