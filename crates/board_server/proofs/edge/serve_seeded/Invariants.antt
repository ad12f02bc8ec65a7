use Rattle.std.proofs.Common.{◌≡◌, ◌≤◌}
use Rattle.std.specs.Prelude.{vec_len, vec_capacity}
use Rattle.board_server.proofs.edge.serve_seeded.Given as goal

abbrev pub invariant-loop-seat : goal.invariant-loop-seat
invariant-loop-seat g l =
    (vec_len l.bots ≡ l.seat) × (l.seats ≤ vec_capacity l.bots)
    × (vec_len l.rests ≡ l.seat) × (l.seats ≤ vec_capacity l.rests)
