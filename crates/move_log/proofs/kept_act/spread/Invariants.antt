use Rattle.std.proofs.Common.{◌≡◌, take}
use Rattle.move_log.proofs.kept_act.spread.Given as goal

abbrev pub invariant-loop-argument : goal.invariant-loop-argument
invariant-loop-argument l = l.args ≡ take l.argument-index l.kept
