-- Which action makes a change of the trail, and what the match comes to by it. Only a move or an event is a step of its own.
use Rattle.std.specs.Prelude.{ℕ}
use Rattle.std.specs.Arc.{arc_value}
use Rattle.game_sheet.specs.declared.act.Act.TheVariants.{Undo, Redo}
use Rattle.reducer.specs.Accepted.{Accepted}
use Rattle.reducer.specs.Prepared.{Coming}
use Rattle.reducer.specs.Struck.{IsDeed}
use Rattle.reducer.specs.Walk.{reached_at}
use Rattle.reducer.specs.declared.change.Change.{Change}
use Rattle.reducer.specs.declared.change.Change.TheVariants.{On, Back, Again}
use Rattle.reducer.specs.declared.checkpoint.Checkpoint.{Checkpoint}

abbrev pub action_of : {G : Type 0} → Change G → Accepted
action_of (On step) = step.act
action_of (Back seat to) = record { seat = seat; act = Undo }
action_of (Again seat to) = record { seat = seat; act = Redo }

abbrev pub led_to : {G : Type 0} → Change G → Checkpoint G
led_to (On step) = step.after
led_to (Back seat to) = arc_value to
led_to (Again seat to) = arc_value to

abbrev pub StepsByDeeds : {G : Type 0} → Change G → Type 0
StepsByDeeds (On step) = IsDeed step.act.act
StepsByDeeds (Back seat to) = Unit {0}
StepsByDeeds (Again seat to) = Unit {0}

-- what is prepared
abbrev pub coming : {G : Type 0} → ℕ → Change G → Coming G
coming number change = record { action = action_of change; number = number; count = (led_to change).count; table = reached_at (led_to change) }
