-- The board of tic-tac-toe: nine cells, which two seats take, and lines of three that win.
use Rattle.std.specs.Prelude.{ℕ, ◌+◌, Bool, false, if◌then◌else◌, nat_eq, nat_lt, pos, List, [], ◌∷◌, replicate, slice_get, slice_set, is_some, Option, Some, None}
use Rattle.std.specs.List.{find, list_all, list_any}
use Rattle.game_sheet.specs.declared.args.Arg.{Arg}
use Rattle.game_sheet.specs.declared.args.Arg.TheVariants.{Whole}
use Rattle.table_states.specs.declared.board.Board.{Board}

abbrev pub empty : Board
empty = record { cells = replicate 9 None }

-- a cell that is there and free becomes the mover's
abbrev pub take_cell : Option (Option ℕ) → Board → Option Board
take_cell (Some None) taken = Some taken
take_cell found taken = None

abbrev pub click : Board → ℕ → ℕ → Option Board
click b seat place = if nat_lt seat 2 then take_cell (slice_get b.cells place) (record b { cells = slice_set b.cells place (Some seat) }) else None

-- rows, columns and diagonals
abbrev pub lines : List (List ℕ)
lines = (0 ∷ 1 ∷ 2 ∷ []) ∷ (3 ∷ 4 ∷ 5 ∷ []) ∷ (6 ∷ 7 ∷ 8 ∷ [])
    ∷ (0 ∷ 3 ∷ 6 ∷ []) ∷ (1 ∷ 4 ∷ 7 ∷ []) ∷ (2 ∷ 5 ∷ 8 ∷ [])
    ∷ (0 ∷ 4 ∷ 8 ∷ []) ∷ (2 ∷ 4 ∷ 6 ∷ [])
    ∷ []

abbrev pub is_of : ℕ → Option (Option ℕ) → Bool
is_of seat (Some (Some holder)) = nat_eq holder seat
is_of seat found = false

abbrev pub holds : Board → ℕ → List ℕ → Bool
holds b seat line = list_all (λ place. is_of seat (slice_get b.cells place)) line

unfoldable pub has_line : Board → ℕ → Bool
has_line b seat = list_any (holds b seat) lines

-- the least seat with a line
abbrev pub winner : Board → Option ℕ
winner b = find (has_line b) (0 ∷ 1 ∷ [])

abbrev pub is_full : Board → Bool
is_full b = list_all (λ cell. is_some cell) b.cells

-- a click on each free cell of these, which begin at a place
abbrev pub free_clicks : ℕ → List (Option ℕ) → List (ℕ × List Arg)
free_clicks place [] = []
free_clicks place (None ∷ cells) = (0, Whole (pos place) ∷ []) ∷ free_clicks (place + 1) cells
free_clicks place (Some seat ∷ cells) = free_clicks (place + 1) cells
