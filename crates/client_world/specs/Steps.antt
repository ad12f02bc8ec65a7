-- The steps of a world as the code has them, and which it may run.
use Rattle.std.specs.Prelude.{◌<◌}
use Rattle.any_game.specs.GameKind.{GameKind}
use Rattle.world_history.specs.World.{Step, Nothing, Seeds, Opens, Attaches, Acts, Arrives, Takes, Reads, Drops, Leaves, Shows}
use Rattle.wire_json.specs.Asking.{IsAskable}
use Rattle.client_world.specs.declared.step.WorldStep.{WorldStep}
use Rattle.client_world.specs.declared.step.WorldStep.TheVariants as world

abbrev pub step_of : WorldStep → Step GameKind
step_of world.Nothing = Nothing
step_of (world.Seeds seed) = Seeds seed
step_of (world.Opens game seats) = Opens game seats
step_of (world.Attaches client game name seat protocol) = Attaches client game name seat protocol
step_of (world.Acts client asked) = Acts client asked
step_of (world.Arrives client) = Arrives client
step_of (world.Takes client) = Takes client
step_of (world.Reads client) = Reads client
step_of (world.Drops client) = Drops client
step_of (world.Leaves name seat) = Leaves name seat
step_of (world.Shows client) = Shows client

-- its client is one of the 32, and its action one that a line can ask for
abbrev pub IsRunnable : WorldStep → Type 0
IsRunnable (world.Attaches client game name seat protocol) = client < 32
IsRunnable (world.Acts client asked) = (client < 32) × IsAskable asked
IsRunnable (world.Arrives client) = client < 32
IsRunnable (world.Takes client) = client < 32
IsRunnable (world.Reads client) = client < 32
IsRunnable (world.Drops client) = client < 32
IsRunnable (world.Shows client) = client < 32
IsRunnable other = Unit {0}
