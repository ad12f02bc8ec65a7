use Rattle.std.proofs.Common.{◌≡◌, drop}
use Rattle.game_sheet.specs.Lines.{lines}
use Rattle.game_sheet.proofs.bytes.line_at.Given as goal

abbrev pub invariant-loop-line : goal.invariant-loop-line
invariant-loop-line l = lines l.rest ≡ drop l._line (lines l.bytes)
