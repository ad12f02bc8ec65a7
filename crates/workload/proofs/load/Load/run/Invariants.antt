use Rattle.std.proofs.Common.{ℕ, List, ◌+◌, ◌*◌, ◌-◌}
use Rattle.any_game.specs.AnyRules.{any_rules, named}
use Rattle.any_game.specs.GameKind.{GameKind}
use Rattle.any_game.specs.declared.any_g.AnyG.{AnyG}
use Rattle.world_history.specs.Workload.{Workload, begins_round, steps_from}
use Rattle.workload.specs.IsLoad.{IsLoad}
use Rattle.workload.proofs.Stepping.{StepsLeft}
use Rattle.workload.proofs.load.Load.run.Given as goal

-- so many steps were taken, and the others are left
abbrev pub invariant-loop-done : goal.invariant-loop-done
invariant-loop-done l = (tape words : ℕ → List ℕ) (w : Workload GameKind AnyG) → IsLoad tape words 0 l.fn.self w
    → StepsLeft tape words (42 + 43 * l.done) l.self l.done (l.steps - l.done) (steps_from named any_rules tape words 0 l.steps (begins_round named any_rules tape w))
