use Rattle.std.proofs.Common.{◌≡◌, length, map}
use Rattle.std.specs.Prelude.{replicate, vec_len, vec_capacity}
use Rattle.door_serve.proofs.Gathering.{Halfway}
use Rattle.door_serve.proofs.Watching.{Losing}
use Rattle.door_serve.specs.Rooms.{desks_of}
use Rattle.door_serve.proofs.closing.take_last.Given as goal

abbrev pub invariant-loop-place : goal.invariant-loop-place
invariant-loop-place g l = record {
  halfway : Halfway (λ v. v.items) (map (λ d. d.desk) l.desks) l.desk.desk l.rows l.place;
  losing : Losing (λ v. v.items) l.fn.rows l.rows l.passes.items l.place;
  many : length l.rows ≡ length l.fn.rows;
  gathered : desks_of l.passes.items ≡ replicate l.place l.desk.desk;
  count : vec_len l.passes ≡ l.place;
  room : vec_capacity l.passes ≡ vec_capacity l.fn.passes;
}
