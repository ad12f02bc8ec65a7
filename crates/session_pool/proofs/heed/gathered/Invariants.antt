use Rattle.std.proofs.Common.{◌≡◌, take}
use Rattle.std.specs.List.{concat}
use Rattle.game_sheet.specs.Lines.{lines}
use Rattle.session_pool.proofs.heed.gathered.Given as goal

abbrev pub invariant-loop-place : goal.invariant-loop-place
invariant-loop-place l = l.bytes.items ≡ concat (take l.place (lines l.line))
