use Rattle.std.proofs.Common.{arith}
use Rattle.any_game.specs.AnyRules.{named}
use Rattle.game_hall.proofs.Running.{full_where_busy, only_where_busy}
use Rattle.game_hall.proofs.laws.creates_are_full_where_rooms_are_busy.Goals as goal

pub returns-clause-full : goal.returns-clause-full
returns-clause-full c core game kind seats seed rest found = full_where_busy named core game kind found seats seed core.rooms 0 rest (omega arith)

pub returns-clause-only : goal.returns-clause-only
returns-clause-only c core game kind seats seed replies found = only_where_busy named core game kind found seats seed core.rooms 0 replies (omega arith)
