use Rattle.std.proofs.Common.{◌≡◌, take}
use Rattle.std.specs.List.{concat}
use Rattle.game_sheet.specs.Lines.{lines}
use Rattle.client_world.proofs.handing.joined.Given as goal

-- the lines before the place are joined
abbrev pub invariant-loop-place : goal.invariant-loop-place
invariant-loop-place l = l.all.items ≡ concat (take l.place (lines l.bytes))
