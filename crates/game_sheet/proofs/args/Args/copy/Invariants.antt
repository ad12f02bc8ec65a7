use Rattle.std.proofs.Common.{◌≡◌, take}
use Rattle.game_sheet.proofs.args.Args.copy.Given as goal

abbrev pub invariant-loop-argument : goal.invariant-loop-argument
invariant-loop-argument l = l.copied ≡ take l.argument-index l.self
