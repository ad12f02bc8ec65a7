use Rattle.std.proofs.Common.{◌≡◌, ◌≤◌, ◌++◌, map}
use Rattle.std.specs.Prelude.{option_map, vec_capacity, vec_len}
use Rattle.session_pool.specs.Rooms.{numbers}
use Rattle.kept_serve.proofs.opening.take_disks.Given as goal

-- the disks so far
abbrev pub invariant-loop-room : goal.invariant-loop-room
invariant-loop-room g l = record {
  numbered : map (λ j. j.room) l.jobs.items ≡ numbers 0 l.room;
  given : g.S.Shelf.given l.shelf ≡ option_map (λ before. before ++ map (λ j. j.disk) l.jobs.items) (g.S.Shelf.given l.fn.shelf);
  faults : g.S.Shelf.faults l.fn.shelf ≤ g.S.Shelf.faults l.shelf;
  many : vec_len l.jobs ≡ l.room;
  space : l.rooms ≤ vec_capacity l.jobs;
}
