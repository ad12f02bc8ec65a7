-- What a ClientWorld holds, and when that is a world: its hall, and its clients with their links.
use Rattle.std.specs.Prelude.{◌≡◌, ℕ, List}
use Rattle.any_game.specs.AnyRules.{any_rules, named}
use Rattle.any_game.specs.GameKind.{GameKind}
use Rattle.any_game.specs.declared.any_g.AnyG.{AnyG}
use Rattle.hall_history.specs.Mark.{Mark}
use Rattle.world_history.specs.World.{World, Step}
use Rattle.world_history.specs.WorldScript.{does}
use Rattle.session_hall.specs.Held.{HeldHall, StandsForHall}
use Rattle.client_world.specs.Peers.{ArePeers}
use Rattle.client_world.specs.declared.peer.Peer.{Peer}

pub record HeldWorld : Type 0 where
  pub hall : HeldHall
  -- client 0's first
  pub peers : List Peer

-- a ClientWorld stands for a world whose words are those of this tape
pub record IsWorld (tape : ℕ → List ℕ) (held : HeldWorld) (w : World GameKind AnyG) : Type 0 where
  pub hall : StandsForHall tape held.hall w.hall
  pub peers : ArePeers held.peers w

-- a step was made, with the memory that a mark says, and printed this
pub record HasDone (tape : ℕ → List ℕ) (w : World GameKind AnyG) (step : Step GameKind) (new : HeldWorld) (text : List ℕ) : Type 0 where
  pub mark : Mark
  pub stands : IsWorld tape new (does named any_rules tape mark step w).0
  pub prints : text ≡ (does named any_rules tape mark step w).1
