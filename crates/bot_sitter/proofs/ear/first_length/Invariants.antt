use Rattle.std.proofs.Common.{◌≡◌, ◌+◌, drop}
use Rattle.game_sheet.specs.Lines.{first_length}
use Rattle.bot_sitter.proofs.ear.first_length.Given as goal

abbrev pub invariant-loop-byte : goal.invariant-loop-byte
invariant-loop-byte l = (l.length ≡ l.byte-index) × (first_length l.bytes ≡ l.byte-index + first_length (drop l.byte-index l.bytes))
