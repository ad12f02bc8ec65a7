-- Countdown: two to four seats take from a heap of 21 in turn, and whoever takes the last of it wins.
use Rattle.std.specs.Prelude.{ℕ, ◌-◌, min, nat_eq, nat_le, nat_lt, true, ◌&&◌, if◌then◌else◌, pos, List, [], ◌∷◌, ◌++◌, codes, option_map, option_and_then, Option, Some, None}
use Rattle.dice_words.specs.Dice.{die}
use Rattle.game_sheet.specs.declared.act.EventKind.TheVariants.{EndTurn}
use Rattle.game_sheet.specs.declared.act.Outcome.TheVariants.{Winner}
use Rattle.game_sheet.specs.declared.args.Arg.{Arg}
use Rattle.game_sheet.specs.declared.args.Arg.TheVariants.{Whole}
use Rattle.game_trait.specs.Deed.{Barred, Deed, Done, GaveUp, Invalid, Lacks, Spent, drawing}
use Rattle.open_game.specs.Arguments.{only_natural}
use Rattle.open_game.specs.OpenRules.{OpenRules, made}
use Rattle.open_game.specs.Sheets.{turns_sheet}
use Rattle.table_states.specs.declared.heap.Heap.{Heap}

abbrev pub full_heap : Heap
full_heap = record { left = 21; last = None }

abbrev pub less : Heap → ℕ → ℕ → Heap
less h seat count = record { left = h.left - count; last = Some seat }

-- a seat takes 1 to 3, and no more than there is
abbrev pub take : Heap → ℕ → ℕ → Option Heap
take h seat count = if nat_le 1 count && nat_le count 3 && nat_le count h.left then Some (less h seat count) else None

-- a seat takes what a die of three faces shows, or all that there is where that is less
abbrev pub wild : Heap → ℕ → List Arg → List ℕ → Deed Heap Barred
wild h seat [] words = if nat_eq h.left 0 then GaveUp Invalid else drawing (Lacks Spent) words (λ word rest. Done (less h seat (min (die 3 word) h.left)) rest [])
wild h seat (_ ∷ _) words = GaveUp Invalid

-- a take of each of these counts that the heap has
abbrev pub takes : Heap → List ℕ → List (ℕ × List Arg)
takes h [] = []
takes h (count ∷ counts) = if nat_le count h.left then (0, Whole (pos count) ∷ []) ∷ takes h counts else takes h counts

-- takes of 1 to 3, and a wild take
abbrev pub heap_offers : Heap → List (ℕ × List Arg)
heap_offers h = takes h (1 ∷ 2 ∷ 3 ∷ []) ++ (1, []) ∷ []

-- turns of one or two moves, and a player may end a turn
abbrev pub countdown : OpenRules Heap
countdown = record {
  sheet = turns_sheet (codes "countdown") 2 4 (codes "take" ∷ codes "wild" ∷ []) (0 ∷ 1 ∷ []) (Some 2) (EndTurn ∷ []);
  opening = λ seats. full_heap;
  play = λ h seat id args words.
      if nat_lt seat 4 then (if nat_eq id 0 then made (option_and_then (take h seat) (only_natural args)) words else wild h seat args words) else GaveUp Invalid;
  end_if = λ h. if nat_eq h.left 0 then option_map Winner h.last else None;
  may_undo = true;
  offers = λ h seat. heap_offers h;
}
