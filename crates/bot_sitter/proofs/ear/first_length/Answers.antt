use Rattle.std.proofs.Common.{◌+◌, arith}
use Rattle.std.proofs.lemmas.Grind.{common_steps}
use Rattle.game_sheet.proofs.Cut.{cut_at}
use Rattle.bot_sitter.proofs.ear.first_length.Goals as goal

pub returns-then-byte-eq10-clause-line : goal.returns-then-byte-eq10-clause-line
returns-then-byte-eq10-clause-line c = cut_at c.args.bytes.now (c.loop-byte.length + 1) (grind (arith, common_steps))

pub returns-clause-line : goal.returns-clause-line
returns-clause-line c = cut_at c.args.bytes.now c.loop-byte.length (grind (arith, common_steps))
