use Rattle.std.proofs.Common.{◌≡◌, map, take}
use Rattle.open_game.specs.Sheets.{ordinary}
use Rattle.open_game.proofs.sheets.make_moves.Given as goal

-- the rows of the names so far
abbrev pub invariant-loop-name : goal.invariant-loop-name
invariant-loop-name l = l.rows ≡ map ordinary (map (λ name. name.now) (take l.name-index l.names))
