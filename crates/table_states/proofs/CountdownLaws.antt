-- Countdown keeps the laws of open games.
use Rattle.std.proofs.Common.{◌≡◌, ◌<◌, ◌≤◌, ◌-◌, ◌&&◌, ℕ, Bool, true, false, if◌then◌else◌, nat_eq, nat_le, nat_lt, min, IsTrue, pos, List, [], ◌∷◌, ◌++◌, Option, Some, None, option_map, option_and_then, refl, arith}
use Rattle.std.specs.List.{AllByRecursion}
use Rattle.std.specs.Prelude.{IfSome}
use Rattle.std.proofs.lemmas.Bool.{and_from, and_parts, le-leb, leb-true, ltb-true}
use Rattle.dice_words.specs.Dice.{die}
use Rattle.game_sheet.specs.SheetRules.{broken}
use Rattle.game_sheet.specs.declared.act.Outcome.TheVariants.{Winner}
use Rattle.game_sheet.specs.declared.args.Arg.{Arg}
use Rattle.game_sheet.specs.declared.args.Arg.TheVariants.{Whole}
use Rattle.game_trait.specs.Deed.{Barred, Done, GaveUp, Invalid, Lacks, Spent, drawing}
use Rattle.game_trait.specs.InSheet.{OutcomeFits}
use Rattle.game_trait.specs.Lawful.{GivesOwn}
use Rattle.game_trait.specs.Queues.{QueuesInSheet}
use Rattle.open_game.specs.Arguments.{only_natural}
use Rattle.open_game.specs.Forms.{greatest, is_seat}
use Rattle.open_game.specs.OpenRules.{OpenLaws, made}
use Rattle.open_game.proofs.Moves.{drawing_keeps, drawing_own, either_keeps, either_own, made_keeps, made_own, some_says}
use Rattle.table_states.specs.Countdown.{countdown, heap_offers, less, take, takes, wild}
use Rattle.table_states.specs.StateForms.{heap_form}
use Rattle.table_states.specs.declared.heap.Heap.{Heap}

fits : broken countdown.sheet ≡ 0
unfolding broken
fits = refl

abbrev IsOwn : Heap → Type 0
IsOwn h = IsTrue (heap_form.own h)

-- ---- own states

less_own : (h : Heap) (seat count : ℕ) → nat_lt seat 4 ≡ true → IsOwn h → IsOwn (less h seat count)
less_own h seat count plays own =
    let parts = and_parts (nat_le h.left greatest) (is_seat 7 h.last) own in
    let small : h.left ≤ greatest = leb-true h.left greatest parts.0 in
    let low : seat < 4 = ltb-true seat 4 plays in
    and_from (nat_le (h.left - count) greatest) (nat_le seat 7) (le-leb (h.left - count) greatest (omega arith)) (le-leb seat 7 (omega arith))

some_own : (test : Bool) (h : Heap) → IsOwn h → IfSome (if test then Some h else None) IsOwn
some_own true h own = own
some_own false h own = tt

wild_own : (h : Heap) (seat : ℕ) (args : List Arg) (words : List ℕ) → ((count : ℕ) → IsOwn (less h seat count)) → GivesOwn heap_form.own (wild h seat args words)
wild_own h seat (next ∷ rest) words own = tt
wild_own h seat [] words own = either_own heap_form.own (nat_eq h.left 0) (GaveUp Invalid) _ (λ none. tt)
    (λ some. drawing_own {E = Barred} heap_form.own (Lacks Spent) words (λ word rest. Done (less h seat (min (die 3 word) h.left)) rest []) (λ word rest. own (min (die 3 word) h.left)))

plays_own : (h : Heap) (seat id : ℕ) (args : List Arg) (words : List ℕ) → ((count : ℕ) → IsOwn (less h seat count))
    → GivesOwn heap_form.own (if nat_eq id 0 then made (option_and_then (take h seat) (only_natural args)) words else wild h seat args words)
plays_own h seat id args words own = either_own heap_form.own (nat_eq id 0) _ (wild h seat args words)
    (λ takes. made_own heap_form.own (option_and_then (take h seat) (only_natural args)) words
    (some_says (take h seat) IsOwn (λ count. some_own (nat_le 1 count && nat_le count 3 && nat_le count h.left) (less h seat count) (own count)) (only_natural args)))
    (λ takes. wild_own h seat args words own)

move_own : (h : Heap) (seat id : ℕ) (args : List Arg) (words : List ℕ) → IsOwn h → GivesOwn heap_form.own (countdown.play h seat id args words)
move_own h seat id args words own = either_own heap_form.own (nat_lt seat 4) _ (GaveUp Invalid) (λ plays. plays_own h seat id args words (λ count. less_own h seat count plays own)) (λ plays. tt)

-- ---- no move queues an event

wild_keeps : (h : Heap) (seat : ℕ) (args : List Arg) (words : List ℕ) → QueuesInSheet countdown.sheet (wild h seat args words)
wild_keeps h seat (next ∷ rest) words = tt
wild_keeps h seat [] words = either_keeps countdown.sheet (nat_eq h.left 0) (GaveUp Invalid) _ tt
    (drawing_keeps {E = Barred} countdown.sheet (Lacks Spent) words (λ word rest. Done (less h seat (min (die 3 word) h.left)) rest []) (λ word rest. tt))

move_keeps : (h : Heap) (seat id : ℕ) (args : List Arg) (words : List ℕ) → QueuesInSheet countdown.sheet (countdown.play h seat id args words)
move_keeps h seat id args words = either_keeps countdown.sheet (nat_lt seat 4) _ (GaveUp Invalid)
    (either_keeps countdown.sheet (nat_eq id 0) _ (wild h seat args words) (made_keeps countdown.sheet (option_and_then (take h seat) (only_natural args)) words) (wild_keeps h seat args words))
    tt

-- ---- ends and offers

last_fits : (last : Option ℕ) → is_seat 7 last ≡ true → IfSome (option_map Winner last) OutcomeFits
last_fits None own = tt
last_fits (Some seat) own = let low : seat ≤ 7 = leb-true seat 7 own in omega arith

ends_fit : (none : Bool) (last : Option ℕ) → is_seat 7 last ≡ true → IfSome (if none then option_map Winner last else None) OutcomeFits
ends_fit true last own = last_fits last own
ends_fit false last own = tt

abbrev IsKnown : ℕ × List Arg → Type 0
IsKnown offer = offer.0 < 2

one_known : (test : Bool) (count : ℕ) (rest : List (ℕ × List Arg)) → AllByRecursion IsKnown (rest ++ (1, []) ∷ []) → AllByRecursion IsKnown ((if test then (0, Whole (pos count) ∷ []) ∷ rest else rest) ++ (1, []) ∷ [])
one_known true count rest others = (omega arith, others)
one_known false count rest others = others

takes_known : (h : Heap) (counts : List ℕ) → AllByRecursion IsKnown (takes h counts ++ (1, []) ∷ [])
takes_known h [] = (omega arith, tt)
takes_known h (count ∷ counts) = one_known (nat_le count h.left) count (takes h counts) (takes_known h counts)

pub countdown_laws : OpenLaws heap_form.own countdown
countdown_laws = record {
  fits = fits;
  opening = λ seats least most. refl;
  play = λ h seat id args words own. move_own h seat id args words own;
  in_sheet = λ h seat id args words known. move_keeps h seat id args words;
  ends = λ h own. ends_fit (nat_eq h.left 0) h.last (and_parts (nat_le h.left greatest) (is_seat 7 h.last) own).1;
  offers = λ h seat. takes_known h (1 ∷ 2 ∷ 3 ∷ []);
}
