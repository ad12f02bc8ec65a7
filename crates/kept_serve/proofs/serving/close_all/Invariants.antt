use Rattle.std.proofs.Common.{◌≡◌, ◌≤◌, ◌+◌, ◌++◌, length, map}
use Rattle.std.specs.Prelude.{vec_capacity, vec_len}
use Rattle.std.specs.Vec.Iter.{into_iter_items}
use Rattle.kept_serve.specs.Kept.{left_of}
use Rattle.kept_serve.proofs.serving.close_all.Given as goal

-- the rooms that are closed, and then those that aren't yet
abbrev pub invariant-loop-room : goal.invariant-loop-room
invariant-loop-room g l = record {
  can_next : (goal.iterator-loop-room g).can_next l.room-iterator;
  is_finite : (goal.iterator-loop-room g).is_finite l.room-iterator;
  all : l.closed.items ++ map (λ b. left_of b.room.room) (into_iter_items l.room-iterator) ≡ map (λ b. left_of b.room.room) l.fn.rooms.items;
  space : vec_len l.closed + length (into_iter_items l.room-iterator) ≤ vec_capacity l.closed;
}
