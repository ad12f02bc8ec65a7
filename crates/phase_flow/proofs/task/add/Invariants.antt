use Rattle.std.proofs.Common.{◌≡◌, ◌++◌, take}
use Rattle.phase_flow.specs.Step.{spoken_by}
use Rattle.phase_flow.proofs.task.add.Given as goal

abbrev pub invariant-loop-event : goal.invariant-loop-event
invariant-loop-event l = l.tasks ≡ l.initial.tasks ++ spoken_by l.who (take l.event-index l.events)
