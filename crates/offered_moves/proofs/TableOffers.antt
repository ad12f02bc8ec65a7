-- The moves that the table games offer are made.
use Rattle.std.specs.Prelude.{◌≡◌, ◌+◌, ◌^◌, ◌<◌, ◌≤◌, ℕ, zero, suc, pos, Bool, true, false, if◌then◌else◌, nat_eq, nat_le, nat_lt, min, length, List, [], ◌∷◌, ◌++◌, Option, Some, None, slice_get, slice_set, refl}
use Rattle.std.specs.List.{AllByRecursion}
use Rattle.std.proofs.Common.{◌∙◌, ap, sym, subst, arith}
use Rattle.std.proofs.lemmas.Bool.{false≢true}
use Rattle.dice_words.specs.Dice.{die}
use Rattle.game_sheet.specs.declared.act.Event.TheVariants.{EndTurn}
use Rattle.game_sheet.specs.declared.args.Arg.{Arg}
use Rattle.game_sheet.specs.declared.args.Arg.TheVariants.{Whole}
use Rattle.game_trait.specs.Deed.{Barred, Deed, Done, GaveUp, Invalid, Lacks, Spent, drawing}
use Rattle.open_game.specs.OpenRules.{made}
use Rattle.table_states.specs.Board.{free_clicks, take_cell}
use Rattle.table_states.specs.Countdown.{countdown, less}
use Rattle.table_states.specs.Pig.{hold, in_range, move_with, pig, roll, rolled, scored, total_of}
use Rattle.table_states.specs.Points.{Points}
use Rattle.table_states.specs.TicTacToe.{tic_tac_toe}
use Rattle.table_states.specs.declared.board.Board.{Board}
use Rattle.table_states.specs.declared.heap.Heap.{Heap}
use Rattle.offered_moves.proofs.Ending.{IsQuiet}

-- a move is made that queues nothing, or the end of the turn alone
abbrev pub IsMade : {G : Type 0} → Deed G Barred → Type 0
IsMade (Done g left []) = Unit {0}
IsMade (Done g left (EndTurn None ∷ [])) = Unit {0}
IsMade _ = ⊥

-- an action may draw a word
pub drawing_quiet : {G : Type 0} (why : Barred) (words : List ℕ) (go : ℕ → List ℕ → Deed G Barred) → 0 < length words → ((word : ℕ) (left : List ℕ) → words ≡ word ∷ left → IsQuiet (go word left)) → IsQuiet (drawing why words go)
drawing_quiet why [] go some k = absurd (omega arith)
drawing_quiet why (word ∷ left) go some k = k word left refl

pub drawing_made : {G : Type 0} (why : Barred) (words : List ℕ) (go : ℕ → List ℕ → Deed G Barred) → 0 < length words → ((word : ℕ) (left : List ℕ) → words ≡ word ∷ left → IsMade (go word left)) → IsMade (drawing why words go)
drawing_made why [] go some k = absurd (omega arith)
drawing_made why (word ∷ left) go some k = k word left refl

-- a list that is there where a test holds
pub if_offered : {A : Type 0} (P : A → Type 0) (may : Bool) (list : List A) → (may ≡ true → AllByRecursion P list) → AllByRecursion P (if may then list else [])
if_offered P true list all = all refl
if_offered P false list all = tt

-- what stands at a place of a list
pub at_place : {A : Type 0} (xs : List A) (i : ℕ) → i < length xs → (x : A) × (slice_get xs i ≡ Some x)
at_place [] i low = absurd (omega arith)
at_place (x ∷ xs) zero low = (x, refl)
at_place (x ∷ xs) (suc i) low = at_place xs i (omega arith)

pub below : (n m : ℕ) → n < m → nat_lt n m ≡ true
below n m less = grind (arith, less)

pub not_zero : (n : ℕ) → 0 < n → nat_eq n 0 ≡ false
not_zero n some = grind (arith, some)

pub is_zero : (n : ℕ) → nat_eq n 0 ≡ false → 0 < n
is_zero n some = grind (arith, some)

-- ---- tic-tac-toe: each free cell

clicked : (few : Bool) (cell : Option (Option ℕ)) (b : Board) (words : List ℕ) → few ≡ true → cell ≡ Some None → IsQuiet (made (if few then take_cell cell b else None) words)
clicked true None b words few free = cc
clicked true (Some None) b words few free = tt
clicked true (Some (Some seat)) b words few free = cc
clicked false cell b words few free = absurd (false≢true few)

abbrev pub Clicks : Board → ℕ → List ℕ → ℕ × List Arg → Type 0
Clicks b seat words offer = (offer.0 ≡ 0) × IsQuiet (tic_tac_toe.play b seat offer.0 offer.1 words)

free_made : (b : Board) (seat : ℕ) (words : List ℕ) (place : ℕ) (cells : List (Option ℕ)) → seat < 2 → ((i : ℕ) → slice_get b.cells (place + i) ≡ slice_get cells i) → AllByRecursion (Clicks b seat words) (free_clicks place cells)
free_made b seat words place [] low at = tt
free_made b seat words place (None ∷ cells) low at = (
  (refl, clicked (nat_lt seat 2) (slice_get b.cells place) (record b { cells = slice_set b.cells place (Some seat) }) words (below seat 2 low) (ap (slice_get b.cells) (omega arith) ∙ at 0)),
  free_made b seat words (place + 1) cells low (λ i. ap (slice_get b.cells) (omega arith) ∙ at (suc i)),
)
free_made b seat words place (Some holder ∷ cells) low at = free_made b seat words (place + 1) cells low (λ i. ap (slice_get b.cells) (omega arith) ∙ at (suc i))

pub clicks_made : (b : Board) (seat : ℕ) (words : List ℕ) → seat < 2 → AllByRecursion (Clicks b seat words) (tic_tac_toe.offers b seat)
clicks_made b seat words low = free_made b seat words 0 b.cells low (λ i. ap (slice_get b.cells) (omega arith))

-- ---- Countdown: takes that the heap has, and a wild one where there is something to take

abbrev pub Takes : Heap → ℕ → List ℕ → ℕ × List Arg → Type 0
Takes h seat words offer = (offer.0 < 2) × IsQuiet (countdown.play h seat offer.0 offer.1 words)

taken : (low few : Bool) (h : Heap) (d : Deed Heap Barred) (words : List ℕ) → low ≡ true → few ≡ true → IsQuiet (if low then made (if few then Some h else None) words else d)
taken true true h d words low few = tt
taken true false h d words low few = absurd (false≢true few)
taken false few h d words low is = absurd (false≢true low)

one_taken : (P : ℕ × List Arg → Type 0) (test : Bool) (offer last : ℕ × List Arg) (rest : List (ℕ × List Arg)) → (test ≡ true → P offer) → AllByRecursion P (rest ++ last ∷ []) → AllByRecursion P ((if test then offer ∷ rest else rest) ++ last ∷ [])
one_taken P true offer last rest is others = (is refl, others)
one_taken P false offer last rest is others = others

wild_made : (low none : Bool) (h : Heap) (d e : Deed Heap Barred) → low ≡ true → none ≡ false → IsQuiet d → IsQuiet (if low then (if none then GaveUp Invalid else d) else e)
wild_made true false h d e low none is = is
wild_made true true h d e low none is = absurd (false≢true (sym none))
wild_made false none h d e low is made = absurd (false≢true low)

pub takes_made : (h : Heap) (seat : ℕ) (words : List ℕ) → seat < 4 → 0 < h.left → 0 < length words → AllByRecursion (Takes h seat words) (countdown.offers h seat)
takes_made h seat words low some draws =
    let plays = below seat 4 low in
    one_taken (Takes h seat words) (nat_le 1 h.left) (0, Whole (pos 1) ∷ []) (1, []) _ (λ is. (omega arith, taken (nat_lt seat 4) (nat_le 1 h.left) (less h seat 1) _ words plays is))
    (one_taken (Takes h seat words) (nat_le 2 h.left) (0, Whole (pos 2) ∷ []) (1, []) _ (λ is. (omega arith, taken (nat_lt seat 4) (nat_le 2 h.left) (less h seat 2) _ words plays is))
    (one_taken (Takes h seat words) (nat_le 3 h.left) (0, Whole (pos 3) ∷ []) (1, []) [] (λ is. (omega arith, taken (nat_lt seat 4) (nat_le 3 h.left) (less h seat 3) _ words plays is))
    ((omega arith, wild_made (nat_lt seat 4) (nat_eq h.left 0) h _ _ plays (not_zero h.left some) (drawing_quiet (Lacks Spent) words (λ word rest. Done (less h seat (min (die 3 word) h.left)) rest []) draws (λ word left is. tt))), tt)))

-- ---- Pig: a roll, and a hold where there is something to hold

pub small_face : (word : ℕ) → word < 2 ^ 32 → die 6 word ≤ 6
small_face word low = omega arith

abbrev pub Rolls : Points → ℕ → List ℕ → ℕ × List Arg → Type 0
Rolls p seat words offer = (offer.0 < 2) × IsMade (pig.play p seat offer.0 offer.1 words)

in_range_some : (sum : ℕ) (P : Option ℕ → Type 0) → sum < 2 ^ 32 → P (Some sum) → P (in_range sum)
in_range_some sum P low is = subst (λ b. P (if b then Some sum else None)) (sym (below sum (2 ^ 32) low)) is

rolled_made : (points : ℕ → Points) (pot face : ℕ) (one : Bool) (words : List ℕ) → pot + face < 2 ^ 32 → IsMade (scored points (if one then Some 0 else in_range (pot + face)) words (if one then EndTurn None ∷ [] else []))
rolled_made points pot face true words low = tt
rolled_made points pot face false words low = in_range_some (pot + face) (λ o. IsMade (scored points o words [])) low tt

held_made : (points : ℕ → Points) (sum : ℕ) (none : Bool) (words : List ℕ) → none ≡ false → sum < 2 ^ 32 → IsMade (if none then GaveUp Invalid else scored points (in_range sum) words (EndTurn None ∷ []))
held_made points sum true words some low = absurd (false≢true (sym some))
held_made points sum false words some low = in_range_some sum (λ o. IsMade (scored points o words (EndTurn None ∷ []))) low tt

-- the words of an action are of 32 bits
abbrev pub AreWords : List ℕ → Type 0
AreWords words = (word : ℕ) (left : List ℕ) → words ≡ word ∷ left → word < 2 ^ 32

either_offered : (P : ℕ × List Arg → Type 0) (none : Bool) (roll hold : ℕ × List Arg) → P roll → (none ≡ false → P hold) → AllByRecursion P (if none then roll ∷ [] else roll ∷ hold ∷ [])
either_offered P true roll hold r h = (r, tt)
either_offered P false roll hold r h = (r, (h refl, tt))

pub rolls_made : (p : Points) (seat total : ℕ) (words : List ℕ) → total_of p seat ≡ Some total → p.pot + 6 < 2 ^ 32 → total + p.pot < 2 ^ 32 → 0 < length words → AreWords words → AllByRecursion (Rolls p seat words) (pig.offers p seat)
rolls_made p seat total words is low sum draws are =
    either_offered (Rolls p seat words) (nat_eq p.pot 0) (0, []) (1, []) (
      omega arith,
      subst (λ o. IsMade (move_with p seat 0 [] words o)) (sym is)
          (drawing_made (Lacks Spent) words (λ word rest. rolled p (die 6 word) rest) draws
          (λ word left same. let face : die 6 word ≤ 6 = small_face word (are word left same) in rolled_made (λ pot. record p { pot = pot }) p.pot (die 6 word) (nat_eq (die 6 word) 1) left (omega arith))),
    )
    (λ some. (omega arith, subst (λ o. IsMade (move_with p seat 1 [] words o)) (sym is) (held_made (λ n. record { pot = 0; totals = slice_set p.totals seat n }) (total + p.pot) (nat_eq p.pot 0) words some sum)))
