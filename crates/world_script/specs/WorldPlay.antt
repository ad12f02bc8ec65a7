-- A world as it is played, over eight rooms.
use Rattle.any_game.specs.AnyRules.{any_rules, named}
use Rattle.any_game.specs.GameKind.{GameKind}
use Rattle.any_game.specs.declared.any_g.AnyG.{AnyG}
use Rattle.client_world.specs.Reading.{world_step_of}
use Rattle.hall_history.specs.Mark.{Mark}
use Rattle.hall_history.specs.Tapes.{hall_tape}
use Rattle.world_history.specs.World.{Step, World}
use Rattle.world_history.specs.WorldScript.{runs_world}
use Rattle.world_script.specs.Deliveries.{DeliversLines}
use Rattle.line_runner.specs.Play.{Play}

-- its transcript is that of world_history over its steps, with the words of a script's tape
unfoldable pub world_play : Play Mark (Step GameKind) (World GameKind AnyG)
world_play = record { form = world_step_of; runs = runs_world named any_rules hall_tape; Tells = DeliversLines }
