-- A script as it is played, over eight rooms.
use Rattle.any_game.specs.AnyRules.{any_rules, named}
use Rattle.any_game.specs.GameKind.{GameKind}
use Rattle.hall_history.specs.Hall.{Hall, new_hall}
use Rattle.hall_history.specs.Mark.{Mark}
use Rattle.hall_history.specs.Script.{Step, runs_script}
use Rattle.hall_history.specs.Tapes.{hall_tape}
use Rattle.script_steps.specs.Forms.{step_of}
use Rattle.line_runner.specs.Play.{Play}
use Rattle.world_script.specs.Sessions.{TellsSessions, room_count}

-- its transcript is that of hall_history over its steps, with the words of a script's tape
unfoldable pub script_play : Play Mark Step (Hall GameKind)
script_play = record { form = step_of; runs = runs_script named any_rules hall_tape; Tells = TellsSessions }

-- it begins with a hall in which nothing was done
abbrev pub first_hall : Hall GameKind
first_hall = new_hall room_count
