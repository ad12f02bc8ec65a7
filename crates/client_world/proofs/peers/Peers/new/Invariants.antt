use Rattle.std.proofs.Common.{◌≡◌, ◌≤◌, replicate}
use Rattle.std.specs.Vec.{vec_capacity}
use Rattle.client_world.specs.Peers.{no_peer}
use Rattle.client_world.proofs.peers.Peers.new.Given as goal

-- so many places were made, and there is room for all
abbrev pub invariant-loop-client : goal.invariant-loop-client
invariant-loop-client l = (l.each.items ≡ replicate l._client no_peer) × (32 ≤ vec_capacity l.each)
