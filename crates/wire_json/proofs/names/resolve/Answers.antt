use Rattle.std.proofs.Common.{rules}
use Rattle.wire_json.proofs.NoNames.{no_move}
use Rattle.wire_json.proofs.names.resolve.Goals as goal

pub returns-in-None : goal.returns-in-None
returns-in-None c = no_move c.args.sheet.now c.args.asked.now _ _ c.move_named.result c.in-Move.is (search rules) (search rules)
