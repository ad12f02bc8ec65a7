use Rattle.std.proofs.Common.{arith, []}
use Rattle.any_game.specs.AnyRules.{named}
use Rattle.game_hall.proofs.Running.{lists_rows}
use Rattle.game_hall.proofs.laws.lists_have_a_row_for_each_room.Goals as goal

pub returns : goal.returns
returns c core game replies all served = lists_rows named core game core.rooms 0 [] replies (omega arith) all served
