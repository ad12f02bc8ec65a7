-- What holds of every match of Countdown, where an empty heap has a last taker, and of Pig, where each seat has a total and no sum passes 32 bits.
use Rattle.std.specs.Prelude.{◌≡◌, ◌<◌, ◌≤◌, ◌+◌, ◌*◌, ◌^◌, ◌&&◌, ℕ, zero, suc, Bool, true, false, if◌then◌else◌, nat_eq, nat_le, nat_lt, min, is_some, length, replicate, List, [], ◌∷◌, Option, Some, None, IfSome, slice_get, slice_set, option_and_then, refl}
use Rattle.std.specs.List.{AllByRecursion}
use Rattle.std.proofs.Common.{◌∙◌, subst, arith}
use Rattle.std.proofs.lemmas.Bool.{false≢true}
use Rattle.std.proofs.lemmas.List.{length-replicate, length-set}
use Rattle.dice_words.specs.Dice.{die}
use Rattle.game_sheet.specs.declared.act.Event.{Event}
use Rattle.game_sheet.specs.declared.act.Event.TheVariants.{EndTurn}
use Rattle.game_sheet.specs.declared.args.Arg.{Arg}
use Rattle.game_trait.specs.Deed.{Barred, Deed, Done, GaveUp, Invalid, Lacks, Spent, drawing}
use Rattle.open_game.proofs.Moves.{some_says}
use Rattle.open_game.specs.Arguments.{only_natural}
use Rattle.open_game.specs.OpenRules.{made}
use Rattle.table_states.specs.Countdown.{countdown, full_heap, less, take, wild}
use Rattle.table_states.specs.Pig.{ended, hold, in_range, move_with, no_points, pot_after, roll, rolled, scored, total_of}
use Rattle.table_states.specs.Points.{Points}
use Rattle.table_states.specs.declared.heap.Heap.{Heap}
use Rattle.offered_moves.proofs.TableOffers.{at_place, AreWords, below, small_face}

-- a state that is made is such a one
abbrev pub Makes : {G : Type 0} → (G → Type 0) → Deed G Barred → Type 0
Makes P (Done g left queued) = P g
Makes P (GaveUp why) = Unit {0}

pub either_makes : {G : Type 0} (P : G → Type 0) (test : Bool) (one other : Deed G Barred) → Makes P one → Makes P other → Makes P (if test then one else other)
either_makes P true one other p q = p
either_makes P false one other p q = q

drawing_makes : {G : Type 0} (P : G → Type 0) (why : Barred) (words : List ℕ) (go : ℕ → List ℕ → Deed G Barred) → ((word : ℕ) (left : List ℕ) → words ≡ word ∷ left → Makes P (go word left)) → Makes P (drawing why words go)
drawing_makes P why [] go each = tt
drawing_makes P why (word ∷ left) go each = each word left refl

made_makes : {G : Type 0} (P : G → Type 0) (o : Option G) (words : List ℕ) → IfSome o P → Makes P (made o words)
made_makes P None words is = tt
made_makes P (Some g) words is = is

-- ---- Countdown

abbrev pub WasTaken : Heap → Type 0
WasTaken h = h.left ≡ 0 → is_some h.last ≡ true

some_taken : (test : Bool) (h : Heap) → WasTaken h → IfSome (if test then Some h else None) WasTaken
some_taken true h is = is
some_taken false h is = tt

taken_by : (h : Heap) (seat count : ℕ) → WasTaken (less h seat count)
taken_by h seat count = λ none. refl

wild_taken : (h : Heap) (seat : ℕ) (args : List Arg) (words : List ℕ) → Makes WasTaken (wild h seat args words)
wild_taken h seat (next ∷ rest) words = tt
wild_taken h seat [] words = either_makes WasTaken (nat_eq h.left 0) (GaveUp Invalid) _ tt
    (drawing_makes WasTaken (Lacks Spent) words (λ word rest. Done (less h seat (min (die 3 word) h.left)) rest []) (λ word left same. taken_by h seat (min (die 3 word) h.left)))

pub move_taken : (h : Heap) (seat id : ℕ) (args : List Arg) (words : List ℕ) → Makes WasTaken (countdown.play h seat id args words)
move_taken h seat id args words = either_makes WasTaken (nat_lt seat 4) _ (GaveUp Invalid)
    (either_makes WasTaken (nat_eq id 0) _ (wild h seat args words)
    (made_makes WasTaken (option_and_then (take h seat) (only_natural args)) words
    (some_says (take h seat) WasTaken (λ count. some_taken (nat_le 1 count && nat_le count 3 && nat_le count h.left) (less h seat count) (taken_by h seat count)) (only_natural args)))
    (wild_taken h seat args words)) tt

pub heap_begins : WasTaken full_heap
heap_begins = λ none. absurd (omega arith)

-- ---- Pig

-- after so many actions
pub record HasTotals (seats n : ℕ) (p : Points) : Type 0 where
  pub each : length p.totals ≡ seats
  pub pot : p.pot ≤ 6 * n
  pub sums : AllByRecursion (λ total. total + p.pot ≤ 6 * n) p.totals

all_more : (P Q : ℕ → Type 0) (xs : List ℕ) → ((x : ℕ) → P x → Q x) → AllByRecursion P xs → AllByRecursion Q xs
all_more P Q [] each all = tt
all_more P Q (x ∷ xs) each all = (each x all.0, all_more P Q xs each all.1)

pub all_got : {A : Type 0} (P : A → Type 0) (xs : List A) (i : ℕ) (x : A) → slice_get xs i ≡ Some x → AllByRecursion P xs → P x
all_got P [] i x is all = absurd (cc)
all_got P (y ∷ xs) zero x is all = let same : y ≡ x = cc in subst P same all.0
all_got P (y ∷ xs) (suc i) x is all = all_got P xs i x is all.1

pub all_put : {A : Type 0} (P : A → Type 0) (xs : List A) (i : ℕ) (x : A) → P x → AllByRecursion P xs → AllByRecursion P (slice_set xs i x)
all_put P [] i x is all = tt
all_put P (y ∷ xs) zero x is all = (is, all.1)
all_put P (y ∷ xs) (suc i) x is all = (all.0, all_put P xs i x is all.1)

all_zero : (n seats : ℕ) → AllByRecursion (λ total. total + 0 ≤ 6 * n) (replicate seats 0)
all_zero n zero = tt
all_zero n (suc seats) = (omega arith, all_zero n seats)

pub points_begin : (seats : ℕ) → HasTotals seats 0 (no_points seats)
points_begin seats = record { each = length-replicate seats 0; pot = omega arith; sums = all_zero 0 seats }

pub points_grow : (seats n : ℕ) (p : Points) → HasTotals seats n p → HasTotals seats (suc n) p
points_grow seats n p has = record {
  each = has.each;
  pot = omega (arith, has.pot);
  sums = all_more (λ total. total + p.pot ≤ 6 * n) (λ total. total + p.pot ≤ 6 * suc n) p.totals (λ total few. omega (arith, few)) has.sums;
}

with_pot : (seats n : ℕ) (p : Points) (pot : ℕ) → pot ≤ p.pot + 6 → HasTotals seats n p → HasTotals seats (suc n) (record p { pot = pot })
with_pot seats n p pot more has = record {
  each = has.each;
  pot = omega (arith, has.pot, more);
  sums = all_more (λ total. total + p.pot ≤ 6 * n) (λ total. total + pot ≤ 6 * suc n) p.totals (λ total few. omega (arith, few, more)) has.sums;
}

scored_makes : (P : Points → Type 0) (points : ℕ → Points) (o : Option ℕ) (words : List ℕ) (queued : List Event) → IfSome o (λ n. P (points n)) → Makes P (scored points o words queued)
scored_makes P points None words queued is = tt
scored_makes P points (Some n) words queued is = is

either_some : (P : ℕ → Type 0) (test : Bool) (sum : ℕ) → P sum → IfSome (if test then Some sum else None) P
either_some P true sum is = is
either_some P false sum is = tt

pot_makes : (seats n : ℕ) (p : Points) (one : Bool) (face : ℕ) → face ≤ 6 → HasTotals seats n p → IfSome (if one then Some 0 else in_range (p.pot + face)) (λ pot. HasTotals seats (suc n) (record p { pot = pot }))
pot_makes seats n p true face low has = with_pot seats n p 0 (omega arith) has
pot_makes seats n p false face low has = either_some (λ pot. HasTotals seats (suc n) (record p { pot = pot })) (nat_lt (p.pot + face) (2 ^ 32)) (p.pot + face) (with_pot seats n p (p.pot + face) (omega arith) has)

roll_makes : (seats n : ℕ) (p : Points) (args : List Arg) (words : List ℕ) → AreWords words → HasTotals seats n p → Makes (HasTotals seats (suc n)) (roll p args words)
roll_makes seats n p (next ∷ rest) words are has = tt
roll_makes seats n p [] words are has = drawing_makes (HasTotals seats (suc n)) (Lacks Spent) words (λ word rest. rolled p (die 6 word) rest)
    (λ word left same. scored_makes (HasTotals seats (suc n)) (λ pot. record p { pot = pot }) (pot_after p.pot (die 6 word)) left (ended (die 6 word))
    (pot_makes seats n p (nat_eq (die 6 word) 1) (die 6 word) (small_face word (are word left same)) has))

held : (seats n : ℕ) (p : Points) (seat total : ℕ) → slice_get p.totals seat ≡ Some total → HasTotals seats n p → HasTotals seats (suc n) (record { pot = 0; totals = slice_set p.totals seat (total + p.pot) })
held seats n p seat total is has =
    let sum : total + p.pot ≤ 6 * n = all_got (λ total. total + p.pot ≤ 6 * n) p.totals seat total is has.sums in
    record {
      each = length-set p.totals seat (total + p.pot) ∙ has.each;
      pot = omega arith;
      sums = all_put (λ total. total + 0 ≤ 6 * suc n) p.totals seat (total + p.pot) (omega (arith, sum))
          (all_more (λ total. total + p.pot ≤ 6 * n) (λ total. total + 0 ≤ 6 * suc n) p.totals (λ total few. omega (arith, few)) has.sums);
    }

hold_makes : (seats n : ℕ) (p : Points) (seat total : ℕ) (args : List Arg) (words : List ℕ) → slice_get p.totals seat ≡ Some total → HasTotals seats n p → Makes (HasTotals seats (suc n)) (hold p seat total args words)
hold_makes seats n p seat total (next ∷ rest) words is has = tt
hold_makes seats n p seat total [] words is has = either_makes (HasTotals seats (suc n)) (nat_eq p.pot 0) (GaveUp Invalid) _ tt
    (scored_makes (HasTotals seats (suc n)) (λ sum. record { pot = 0; totals = slice_set p.totals seat sum }) (in_range (total + p.pot)) words (EndTurn None ∷ [])
    (either_some (λ sum. HasTotals seats (suc n) (record { pot = 0; totals = slice_set p.totals seat sum })) (nat_lt (total + p.pot) (2 ^ 32)) (total + p.pot) (held seats n p seat total is has)))

total_there : (p : Points) (low : Bool) (seat total : ℕ) → (if low then slice_get p.totals seat else None) ≡ Some total → slice_get p.totals seat ≡ Some total
total_there p true seat total is = is
total_there p false seat total is = absurd (cc)

with_makes : (seats n : ℕ) (p : Points) (seat id : ℕ) (args : List Arg) (words : List ℕ) (o : Option ℕ) → total_of p seat ≡ o → AreWords words → HasTotals seats n p → Makes (HasTotals seats (suc n)) (move_with p seat id args words o)
with_makes seats n p seat id args words None is are has = tt
with_makes seats n p seat id args words (Some total) is are has =
    either_makes (HasTotals seats (suc n)) (nat_eq id 0) (roll p args words) (hold p seat total args words) (roll_makes seats n p args words are has) (hold_makes seats n p seat total args words (total_there p (nat_lt seat 4) seat total is) has)

pub points_make : (seats n : ℕ) (p : Points) (seat id : ℕ) (args : List Arg) (words : List ℕ) → AreWords words → HasTotals seats n p → Makes (HasTotals seats (suc n)) (move_with p seat id args words (total_of p seat))
points_make seats n p seat id args words are has = with_makes seats n p seat id args words (total_of p seat) refl are has

-- the total of a seat, and that its sum with the pot is one of 32 bits
pub record HasTotal (p : Points) (seat : ℕ) : Type 0 where
  pub total : ℕ
  pub its : total_of p seat ≡ Some total
  pub pot : p.pot + 6 < 2 ^ 32
  pub sum : total + p.pot < 2 ^ 32

where_low : (p : Points) (low : Bool) (seat total : ℕ) → low ≡ true → slice_get p.totals seat ≡ Some total → (if low then slice_get p.totals seat else None) ≡ Some total
where_low p true seat total low is = is
where_low p false seat total low is = absurd (false≢true low)

pub has_total : (seats n : ℕ) (p : Points) (seat : ℕ) → seats ≤ 4 → seat < seats → n ≤ 4096 → HasTotals seats n p → HasTotal p seat
has_total seats n p seat few low most has =
    let count = has.each in
    let one = at_place p.totals seat (omega arith) in
    let sum : one.0 + p.pot ≤ 6 * n = all_got (λ total. total + p.pot ≤ 6 * n) p.totals seat one.0 one.1 has.sums in
    let four : seat < 4 = omega arith in
    record { total = one.0; its = where_low p (nat_lt seat 4) seat one.0 (below seat 4 four) one.1; pot = omega (arith, has.pot); sum = omega (arith, sum) }
