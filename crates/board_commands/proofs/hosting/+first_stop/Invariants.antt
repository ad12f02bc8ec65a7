use Rattle.std.proofs.Common.{length}
use Rattle.board_commands.proofs.hosting.+first_stop.Given as goal

abbrev pub decreases-first_stop : goal.decreases-first_stop
decreases-first_stop g l = length l.closed.now
