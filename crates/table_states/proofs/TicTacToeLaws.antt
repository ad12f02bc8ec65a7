-- Tic-tac-toe keeps the laws of open games.
use Rattle.std.proofs.Common.{◌≡◌, ◌<◌, ◌+◌, ◌&&◌, ℕ, Bool, true, false, if◌then◌else◌, nat_eq, nat_le, nat_lt, IsTrue, List, [], ◌∷◌, length, Option, Some, None, option_and_then, refl, ap, ◌∙◌, arith}
use Rattle.std.specs.List.{AllByRecursion, list_all}
use Rattle.std.specs.Prelude.{IfSome, slice_get, slice_set}
use Rattle.std.proofs.lemmas.Bool.{and_from, and_parts, le-leb, ltb-true}
use Rattle.std.proofs.lemmas.List.{length-set}
use Rattle.game_sheet.specs.SheetRules.{broken}
use Rattle.game_sheet.specs.declared.args.Arg.{Arg}
use Rattle.game_trait.specs.InSheet.{OutcomeFits}
use Rattle.open_game.specs.Arguments.{only_natural}
use Rattle.open_game.specs.Forms.{is_between, is_seat}
use Rattle.open_game.specs.OpenRules.{OpenLaws}
use Rattle.open_game.proofs.Moves.{all_set, made_keeps, made_own, some_says}
use Rattle.table_states.specs.Board.{click, free_clicks, has_line, is_full, take_cell}
use Rattle.table_states.specs.StateForms.{board_form}
use Rattle.table_states.specs.TicTacToe.{outcome, tic_tac_toe}
use Rattle.table_states.specs.declared.board.Board.{Board}

fits : broken tic_tac_toe.sheet ≡ 0
unfolding broken
fits = refl

-- a seat that plays may take a cell
taken_own : (b : Board) (seat place : ℕ) → nat_lt seat 2 ≡ true → IsTrue (board_form.own b) → IsTrue (board_form.own (record b { cells = slice_set b.cells place (Some seat) }))
taken_own b seat place plays own =
    let parts = and_parts (is_between 9 9 (length b.cells)) (list_all (is_seat 1) b.cells) own in
    let low : seat < 2 = ltb-true seat 2 plays in
    and_from (is_between 9 9 (length (slice_set b.cells place (Some seat)))) (list_all (is_seat 1) (slice_set b.cells place (Some seat)))
    (ap (is_between 9 9) (length-set b.cells place (Some seat)) ∙ parts.0)
    (all_set (is_seat 1) b.cells place (Some seat) (le-leb seat 1 (omega arith)) parts.1)

abbrev IsOwn : Board → Type 0
IsOwn b = IsTrue (board_form.own b)

take_own : (found : Option (Option ℕ)) (taken : Board) → IsOwn taken → IfSome (take_cell found taken) IsOwn
take_own None taken own = tt
take_own (Some (Some seat)) taken own = tt
take_own (Some None) taken own = own

click_at : (plays : Bool) (b : Board) (seat place : ℕ) → nat_lt seat 2 ≡ plays → IsOwn b → IfSome (if plays then take_cell (slice_get b.cells place) (record b { cells = slice_set b.cells place (Some seat) }) else None) IsOwn
click_at false b seat place plays own = tt
click_at true b seat place plays own = take_own (slice_get b.cells place) (record b { cells = slice_set b.cells place (Some seat) }) (taken_own b seat place plays own)

clicked_own : (b : Board) (seat : ℕ) (args : List Arg) → IsOwn b → IfSome (option_and_then (click b seat) (only_natural args)) IsOwn
clicked_own b seat args own = some_says (click b seat) IsOwn (λ place. click_at (nat_lt seat 2) b seat place refl own) (only_natural args)

clicks_known : (place : ℕ) (cells : List (Option ℕ)) → AllByRecursion (λ (offer : ℕ × List Arg). offer.0 < 1) (free_clicks place cells)
clicks_known place [] = tt
clicks_known place (None ∷ cells) = (omega arith, clicks_known (place + 1) cells)
clicks_known place (Some seat ∷ cells) = clicks_known (place + 1) cells

ends_fit : (first second full : Bool) → IfSome (outcome (if first then Some 0 else if second then Some 1 else None) full) OutcomeFits
ends_fit true second full = omega arith
ends_fit false true full = omega arith
ends_fit false false true = tt
ends_fit false false false = tt

pub tic_tac_toe_laws : OpenLaws board_form.own tic_tac_toe
tic_tac_toe_laws = record {
  fits = fits;
  opening = λ seats least most. refl;
  play = λ b seat id args words own. made_own board_form.own (option_and_then (click b seat) (only_natural args)) words (clicked_own b seat args own);
  in_sheet = λ b seat id args words known. made_keeps tic_tac_toe.sheet (option_and_then (click b seat) (only_natural args)) words;
  ends = λ b own. ends_fit (has_line b 0) (has_line b 1) (is_full b);
  offers = λ b seat. clicks_known 0 b.cells;
}
