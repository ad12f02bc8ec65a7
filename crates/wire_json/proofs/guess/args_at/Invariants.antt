use Rattle.std.proofs.Common.{◌-◌, length}
use Rattle.wire_json.proofs.guess.args_at.Given as goal

abbrev pub decreases-loop-rest : goal.decreases-loop-rest
decreases-loop-rest l = 8 - length l.args
