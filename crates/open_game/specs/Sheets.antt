-- A sheet without a row, and the sheet of a game of turns without phases, stages and secrets.
use Rattle.std.specs.Prelude.{ℕ, true, false, List, [], map, Option, None}
use Rattle.game_sheet.specs.declared.act.EventKind.{EventKind}
use Rattle.game_sheet.specs.declared.sheet.MoveRow.{MoveRow}
use Rattle.game_sheet.specs.declared.sheet.Order.TheVariants.{Default}
use Rattle.game_sheet.specs.declared.sheet.Sheet.{Sheet}
use Rattle.game_sheet.specs.declared.sheet.TurnRow.{TurnRow}

-- a game with this name, from the least to the greatest number of seats, and with these turns
abbrev pub blank_sheet : List ℕ → ℕ → ℕ → TurnRow → Sheet
blank_sheet name least greatest turn =
    record { name = name; min_seats = least; max_seats = greatest; moves = []; base = []; turn = turn; phases = []; stages = []; specs = []; events = [] }

-- a move that is shown to all, counts toward each limit and may be guessed
abbrev pub ordinary : List ℕ → MoveRow
ordinary name = record { name = name; redact = false; client = true; no_limit = false; ignore_stale = false }

-- from the least to the greatest number of seats, with ordinary moves and turns of one of them up to a greatest number
abbrev pub turns_sheet : List ℕ → ℕ → ℕ → List (List ℕ) → List ℕ → Option ℕ → List EventKind → Sheet
turns_sheet name least greatest names base max_moves events =
    record (blank_sheet name least greatest (record { order = Default; min_moves = 1; max_moves = max_moves; active = None })) {
      moves = map ordinary names;
      base = base;
      events = events;
    }
