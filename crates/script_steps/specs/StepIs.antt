-- A step that was read, beside the one that a line asks for.
use Rattle.std.specs.Prelude.{◌<◌}
use Rattle.hall_history.specs.Script.{Step, Nothing, Seeds, Opens, Says, Takes, Detaches}
use Rattle.script_steps.specs.declared.step.Step.{Step as Read}
use Rattle.script_steps.specs.declared.step.Step.TheVariants as read

abbrev pub step_is : Read → Step
step_is read.Nothing = Nothing
step_is (read.Seeds seed) = Seeds seed
step_is (read.Opens game seats) = Opens game.now seats
step_is (read.Says pass line) = Says pass line.now
step_is (read.Takes pass) = Takes pass
step_is (read.Detaches pass) = Detaches pass

-- there are 32 sessions
abbrev pub HasPass : Read → Type 0
HasPass read.Nothing = Unit {0}
HasPass (read.Seeds seed) = Unit {0}
HasPass (read.Opens game seats) = Unit {0}
HasPass (read.Says pass line) = pass < 32
HasPass (read.Takes pass) = pass < 32
HasPass (read.Detaches pass) = pass < 32
