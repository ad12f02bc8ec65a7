use Rattle.std.proofs.Common.{◌≡◌, ◌≤◌, ◌+◌, ◌++◌, length, map}
use Rattle.std.specs.Prelude.{vec_capacity, vec_len}
use Rattle.std.specs.Vec.Iter.{into_iter_items}
use Rattle.room_keeper.proofs.watching.gauge_rooms.Given as goal

-- the rooms that have a gauge, and then those that haven't yet
abbrev pub invariant-loop-room : goal.invariant-loop-room
invariant-loop-room g l = record {
  can_next : (goal.iterator-loop-room g).can_next l.room-iterator;
  is_finite : (goal.iterator-loop-room g).is_finite l.room-iterator;
  all : map (λ r. r.room) l.gauged.items ++ into_iter_items l.room-iterator ≡ l.fn.rooms.items;
  space : vec_len l.gauged + length (into_iter_items l.room-iterator) ≤ vec_capacity l.gauged;
  gauges : vec_len l.gauges + length (into_iter_items l.room-iterator) ≤ vec_capacity l.gauges;
}
