-- How a world is played, step by step. After want of memory no more is known of it.
use Rattle.any_game.specs.AnyRules.{any_rules, named}
use Rattle.any_game.specs.GameKind.{GameKind}
use Rattle.any_game.specs.declared.any_g.AnyG.{AnyG}
use Rattle.client_world.specs.IsWorld.{HeldWorld, IsWorld}
use Rattle.hall_history.specs.Mark.{Mark}
use Rattle.hall_history.specs.Tapes.{hall_tape}
use Rattle.world_history.specs.World.{Step, World}
use Rattle.world_history.specs.WorldScript.{does}
use Rattle.line_runner.specs.Play.{Doing}

unfoldable pub world_doing : Doing Mark (Step GameKind) (World GameKind AnyG) HeldWorld
world_doing = record { does = does named any_rules hall_tape; Stands = IsWorld hall_tape; Fails = λ held w. Unit {0} }
