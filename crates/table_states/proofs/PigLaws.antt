-- Pig keeps the laws of open games.
use Rattle.std.proofs.Common.{◌≡◌, ◌<◌, ◌≤◌, ◌+◌, ◌^◌, ◌&&◌, ℕ, zero, suc, Bool, true, false, if◌then◌else◌, nat_eq, nat_le, nat_lt, IsTrue, List, [], ◌∷◌, length, get_or, Option, Some, None, option_map, refl, ap, ◌∙◌, arith}
use Rattle.std.specs.List.{AllByRecursion, list_all}
use Rattle.std.specs.Prelude.{IfSome, position, replicate, slice_set}
use Rattle.std.proofs.lemmas.Bool.{and_from, and_parts, le-leb, leb-true, ltb-true}
use Rattle.std.proofs.lemmas.List.{length-replicate, length-set}
use Rattle.std.proofs.lemmas.List.Quantifiers.{position-Some}
use Rattle.dice_words.specs.Dice.{die}
use Rattle.game_sheet.specs.SheetRules.{broken}
use Rattle.game_sheet.specs.declared.act.Event.{Event}
use Rattle.game_sheet.specs.declared.act.Event.TheVariants.{EndTurn}
use Rattle.game_sheet.specs.declared.act.Outcome.TheVariants.{Winner}
use Rattle.game_sheet.specs.declared.args.Arg.{Arg}
use Rattle.game_trait.specs.Deed.{Barred, Deed, Done, GaveUp, Invalid, Lacks, Spent}
use Rattle.game_trait.specs.InSheet.{OutcomeFits}
use Rattle.game_trait.specs.Lawful.{GivesOwn}
use Rattle.game_trait.specs.Queues.{AllInSheet, QueuesInSheet}
use Rattle.open_game.specs.Forms.{greatest, is_between}
use Rattle.open_game.specs.OpenRules.{OpenLaws}
use Rattle.open_game.proofs.Moves.{all_set, drawing_keeps, drawing_own, either_keeps, either_own}
use Rattle.table_states.specs.Pig.{ended, hold, in_range, move_with, no_points, pig, pot_after, roll, rolled, scored, total_of}
use Rattle.table_states.specs.Points.{Points}
use Rattle.table_states.specs.StateForms.{points_form}

sheet_fits : broken pig.sheet ≡ 0
unfolding broken
sheet_fits = refl

-- ---- own states

abbrev own : Points → Bool
own = points_form.own

abbrev fits : ℕ → Bool
fits n = nat_le n greatest

abbrev are_few : List ℕ → Bool
are_few totals = is_between 1 8 (length totals)

own_from : (pot : ℕ) (totals : List ℕ) → fits pot ≡ true → are_few totals ≡ true → list_all fits totals ≡ true → IsTrue (own (record { pot = pot; totals = totals }))
own_from pot totals small few all = and_from (fits pot) (are_few totals && list_all fits totals) small (and_from (are_few totals) (list_all fits totals) few all)

record Parts (p : Points) : Type 0 where
  small : fits p.pot ≡ true
  few : are_few p.totals ≡ true
  all : list_all fits p.totals ≡ true

parts_of : (p : Points) → IsTrue (own p) → Parts p
parts_of p is =
    let first = and_parts (fits p.pot) (are_few p.totals && list_all fits p.totals) is in
    let rest = and_parts (are_few p.totals) (list_all fits p.totals) first.1 in
    record { small = first.0; few = rest.0; all = rest.1 }

no_totals : (seats : ℕ) → list_all fits (replicate seats 0) ≡ true
no_totals zero = refl
no_totals (suc seats) = no_totals seats

begins_own : (seats : ℕ) → 2 ≤ seats → seats ≤ 4 → IsTrue (own (no_points seats))
begins_own seats least most = own_from 0 (replicate seats 0) refl
    (ap (is_between 1 8) (length-replicate seats 0) ∙ and_from (nat_le 1 seats) (nat_le seats 8) (le-leb 1 seats (omega arith)) (le-leb seats 8 (omega arith)))
    (no_totals seats)

-- a sum of 32 bits is within the form
small_sum : (fit : Bool) (sum : ℕ) → nat_lt sum (2 ^ 32) ≡ fit → IfSome (if fit then Some sum else None) (λ n. fits n ≡ true)
small_sum false sum is = tt
small_sum true sum is = let low : sum < 2 ^ 32 = ltb-true sum (2 ^ 32) is in le-leb sum greatest (omega arith)

small_pot : (one : Bool) (sum : ℕ) → IfSome (if one then Some 0 else in_range sum) (λ n. fits n ≡ true)
small_pot true sum = refl
small_pot false sum = small_sum (nat_lt sum (2 ^ 32)) sum refl

scored_own : (points : ℕ → Points) (o : Option ℕ) (words : List ℕ) (queued : List Event) → ((n : ℕ) → fits n ≡ true → IsTrue (own (points n))) → IfSome o (λ n. fits n ≡ true) → GivesOwn own (scored points o words queued)
scored_own points None words queued is small = tt
scored_own points (Some n) words queued is small = is n small

rolled_own : (p : Points) (face : ℕ) (words : List ℕ) → Parts p → GivesOwn own (rolled p face words)
rolled_own p face words has = scored_own (λ pot. record p { pot = pot }) (pot_after p.pot face) words (ended face) (λ pot small. own_from pot p.totals small has.few has.all) (small_pot (nat_eq face 1) (p.pot + face))

roll_own : (p : Points) (args : List Arg) (words : List ℕ) → Parts p → GivesOwn own (roll p args words)
roll_own p (next ∷ rest) words has = tt
roll_own p [] words has = drawing_own {E = Barred} own (Lacks Spent) words (λ word rest. rolled p (die 6 word) rest) (λ word rest. rolled_own p (die 6 word) rest has)

hold_own : (p : Points) (seat total : ℕ) (args : List Arg) (words : List ℕ) → Parts p → GivesOwn own (hold p seat total args words)
hold_own p seat total (next ∷ rest) words has = tt
hold_own p seat total [] words has = either_own own (nat_eq p.pot 0) (GaveUp Invalid) _ (λ none. tt)
    (λ some. scored_own (λ sum. record { pot = 0; totals = slice_set p.totals seat sum }) (in_range (total + p.pot)) words (EndTurn None ∷ [])
    (λ sum small. own_from 0 (slice_set p.totals seat sum) refl (ap (is_between 1 8) (length-set p.totals seat sum) ∙ has.few) (all_set fits p.totals seat sum small has.all))
    (small_sum (nat_lt (total + p.pot) (2 ^ 32)) (total + p.pot) refl))

move_own : (p : Points) (seat id : ℕ) (args : List Arg) (words : List ℕ) (total : Option ℕ) → Parts p → GivesOwn own (move_with p seat id args words total)
move_own p seat id args words None has = tt
move_own p seat id args words (Some total) has = either_own own (nat_eq id 0) (roll p args words) (hold p seat total args words) (λ rolls. roll_own p args words has) (λ holds. hold_own p seat total args words has)

-- ---- a move queues the end of a turn alone

scored_keeps : (points : ℕ → Points) (o : Option ℕ) (words : List ℕ) (queued : List Event) → AllInSheet pig.sheet queued → QueuesInSheet pig.sheet (scored points o words queued)
scored_keeps points None words queued all = tt
scored_keeps points (Some n) words queued all = all

ended_keeps : (one : Bool) → AllInSheet pig.sheet (if one then EndTurn None ∷ [] else [])
ended_keeps true = (tt, tt)
ended_keeps false = tt

roll_keeps : (p : Points) (args : List Arg) (words : List ℕ) → QueuesInSheet pig.sheet (roll p args words)
roll_keeps p (next ∷ rest) words = tt
roll_keeps p [] words = drawing_keeps {E = Barred} pig.sheet (Lacks Spent) words (λ word rest. rolled p (die 6 word) rest)
    (λ word rest. scored_keeps (λ pot. record p { pot = pot }) (pot_after p.pot (die 6 word)) rest (ended (die 6 word)) (ended_keeps (nat_eq (die 6 word) 1)))

hold_keeps : (p : Points) (seat total : ℕ) (args : List Arg) (words : List ℕ) → QueuesInSheet pig.sheet (hold p seat total args words)
hold_keeps p seat total (next ∷ rest) words = tt
hold_keeps p seat total [] words = either_keeps pig.sheet (nat_eq p.pot 0) (GaveUp Invalid) _ tt
    (scored_keeps (λ sum. record { pot = 0; totals = slice_set p.totals seat sum }) (in_range (total + p.pot)) words (EndTurn None ∷ []) (tt, tt))

move_keeps : (p : Points) (seat id : ℕ) (args : List Arg) (words : List ℕ) (total : Option ℕ) → QueuesInSheet pig.sheet (move_with p seat id args words total)
move_keeps p seat id args words None = tt
move_keeps p seat id args words (Some total) = either_keeps pig.sheet (nat_eq id 0) (roll p args words) (hold p seat total args words) (roll_keeps p args words) (hold_keeps p seat total args words)

-- ---- ends and offers

winner_fits : (totals : List ℕ) (found : Option ℕ) → are_few totals ≡ true → position (λ total. nat_le 20 total) totals ≡ found → IfSome (option_map Winner found) OutcomeFits
winner_fits totals None few is = tt
winner_fits totals (Some seat) few is =
    let low : seat < length totals = (position-Some (λ total. nat_le 20 total) totals seat 0 is).0 in
    let most : length totals ≤ 8 = leb-true (length totals) 8 (and_parts (nat_le 1 (length totals)) (nat_le (length totals) 8) few).1 in
    omega arith

offers_known : (none : Bool) → AllByRecursion (λ (offer : ℕ × List Arg). offer.0 < 2) (if none then (0, []) ∷ [] else (0, []) ∷ (1, []) ∷ [])
offers_known true = (omega arith, tt)
offers_known false = (omega arith, (omega arith, tt))

pub pig_laws : OpenLaws points_form.own pig
pig_laws = record {
  fits = sheet_fits;
  opening = begins_own;
  play = λ p seat id args words is. move_own p seat id args words (total_of p seat) (parts_of p is);
  in_sheet = λ p seat id args words known. move_keeps p seat id args words (total_of p seat);
  ends = λ p is. winner_fits p.totals (position (λ total. nat_le 20 total) p.totals) (parts_of p is).few refl;
  offers = λ p seat. offers_known (nat_eq p.pot 0);
}
