use Rattle.std.proofs.Common.{◌≡◌, ◌+◌, ◌≤◌, Some}
use Rattle.std.specs.Prelude.{All, vec_len, vec_capacity}
use Rattle.board_links.specs.Doors.{IsFresh}
use Rattle.board_commands.proofs.seating.links_for.Given as goal

abbrev pub invariant-loop-seat : goal.invariant-loop-seat
invariant-loop-seat g l =
    (vec_len l.links ≡ l.seat) × (l.seats ≤ vec_capacity l.links)
    × (vec_len l.bots + l.seat ≡ l.seats) × (vec_len l.rests + l.seat ≡ l.seats)
    × All (λ x. IsFresh 0 x.finished (Some x.answers) (Some x.sitter.sent)) l.links.items
