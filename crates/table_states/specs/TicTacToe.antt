-- Tic-tac-toe: two seats click on free cells in turn, and a line of three wins.
use Rattle.std.specs.Prelude.{ℕ, Bool, true, if◌then◌else◌, List, [], ◌∷◌, codes, Option, Some, None, option_and_then}
use Rattle.game_sheet.specs.declared.act.Outcome.{Outcome}
use Rattle.game_sheet.specs.declared.act.Outcome.TheVariants.{Winner, Draw}
use Rattle.open_game.specs.Arguments.{only_natural}
use Rattle.open_game.specs.OpenRules.{OpenRules, made}
use Rattle.open_game.specs.Sheets.{turns_sheet}
use Rattle.table_states.specs.Board.{click, empty, free_clicks, is_full, winner}
use Rattle.table_states.specs.declared.board.Board.{Board}
use Rattle.std.specs.Option.{option_map_or}

-- the least seat with a line wins, and a full board without a line is a draw
abbrev pub outcome : Option ℕ → Bool → Option Outcome
outcome winner full = option_map_or (λ winner. Some (Winner winner)) winner (if full then Some Draw else None)

-- turns of exactly one move
abbrev pub tic_tac_toe : OpenRules Board
tic_tac_toe = record {
  sheet = turns_sheet (codes "tic-tac-toe") 2 2 (codes "clickCell" ∷ []) (0 ∷ []) (Some 1) [];
  opening = λ seats. empty;
  play = λ b seat id args words. made (option_and_then (click b seat) (only_natural args)) words;
  end_if = λ b. outcome (winner b) (is_full b);
  may_undo = true;
  offers = λ b seat. free_clicks 0 b.cells;
}
