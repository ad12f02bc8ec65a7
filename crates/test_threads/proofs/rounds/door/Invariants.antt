use Rattle.std.proofs.Common.{All, Some}
use Rattle.board_links.specs.Doors.{IsFresh}
use Rattle.test_threads.proofs.rounds.door.Given as goal

-- nothing has happened to the links so far
abbrev pub invariant-loop-lines : goal.invariant-loop-lines
invariant-loop-lines l = All (λ k. IsFresh k.faults k.finished (Some k.answers) (Some k.sent)) l.links.items
