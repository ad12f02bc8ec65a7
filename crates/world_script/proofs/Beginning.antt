-- A hall and a world whose words are those of the seed of zeros begin a run.
use Rattle.std.proofs.Common.{replicate}
use Rattle.client_world.specs.IsWorld.{HeldWorld, IsWorld}
use Rattle.hall_history.specs.Tapes.{hall_tape}
use Rattle.world_history.specs.World.{new_world}
use Rattle.session_hall.specs.Held.{HeldHall, StandsForHall, tape_of}
use Rattle.script_steps.specs.ScriptDoing.{script_doing}
use Rattle.world_script.specs.ScriptPlay.{first_hall}
use Rattle.world_script.specs.Deliveries.{first_world}
use Rattle.world_script.specs.Sessions.{room_count}
use Rattle.world_script.specs.WorldDoing.{world_doing}

pub script_begins : (hall : HeldHall) → StandsForHall (tape_of (replicate 32 0)) hall first_hall → script_doing.Stands hall first_hall
unfolding script_doing hall_tape
script_begins hall s = s

pub world_begins : (world : HeldWorld) → IsWorld (tape_of (replicate 32 0)) world (new_world room_count) → world_doing.Stands world first_world
unfolding world_doing hall_tape
world_begins world is = is
