-- The clients of a world with their links, as the code keeps them.
use Rattle.std.specs.Prelude.{◌≡◌, ◌<◌, ℕ, List, [], length, slice_get, Some, None}
use Rattle.any_game.specs.GameKind.{GameKind}
use Rattle.any_game.specs.declared.any_g.AnyG.{AnyG}
use Rattle.world_history.specs.World.{World}
use Rattle.client_world.specs.declared.peer.Peer.{Peer}

abbrev pub peer_of : World GameKind AnyG → ℕ → Peer
peer_of w c = record { player = w.clients c; up = w.up c; down = w.down c }

-- a place without a client
abbrev pub no_peer : Peer
no_peer = record { player = None; up = []; down = [] }

-- they are the first 32 clients of a world, whatever its hall
abbrev pub ArePeers : List Peer → World GameKind AnyG → Type 0
ArePeers peers w = (length peers ≡ 32) × ((c : ℕ) → c < 32 → slice_get peers c ≡ Some (peer_of w c))
