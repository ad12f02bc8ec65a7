use Rattle.std.proofs.Common.{◌≡◌, take}
use Rattle.std.specs.List.{concat}
use Rattle.game_sheet.specs.Lines.{lines}
use Rattle.journal_replay.proofs.line.joined.Given as goal

abbrev pub invariant-loop-place : goal.invariant-loop-place
invariant-loop-place l = l.all.items ≡ concat (take l.place (lines l.bytes))
