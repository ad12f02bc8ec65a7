-- How a hall plays a script, step by step. After want of memory no more is known of it.
use Rattle.any_game.specs.AnyRules.{any_rules, named}
use Rattle.any_game.specs.GameKind.{GameKind}
use Rattle.hall_history.specs.Hall.{Hall}
use Rattle.hall_history.specs.Mark.{Mark}
use Rattle.hall_history.specs.Script.{Step, does}
use Rattle.hall_history.specs.Tapes.{hall_tape}
use Rattle.line_runner.specs.Play.{Doing}
use Rattle.session_hall.specs.Held.{HeldHall, StandsForHall}

unfoldable pub script_doing : Doing Mark Step (Hall GameKind) HeldHall
script_doing = record { does = does named any_rules hall_tape; Stands = StandsForHall hall_tape; Fails = λ held h. Unit {0} }
