use Rattle.std.proofs.Common.{◌≡◌, ◌++◌, drop}
use Rattle.table_states.specs.Board.{free_clicks}
use Rattle.table_states.proofs.board.clicks_on.Given as goal

-- the clicks so far, and those on the free cells that are left, are those on all of them
abbrev pub invariant-loop-place : goal.invariant-loop-place
invariant-loop-place l = l.offers ++ free_clicks l.place (drop l.place l.cells) ≡ free_clicks 0 l.cells
