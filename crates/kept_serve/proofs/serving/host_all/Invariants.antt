use Rattle.std.proofs.Common.{◌≡◌, ◌+◌, ◌≤◌, ◌++◌, Some, length, map}
use Rattle.std.specs.Prelude.{All, vec_len, vec_capacity}
use Rattle.std.specs.Vec.Iter.{into_iter_items}
use Rattle.any_game.specs.AnyRules.{any_rules}
use Rattle.hosted_room.specs.Calls.{NobodyIn}
use Rattle.kept_room.specs.Hosting.{StandsFrom}
use Rattle.kept_room.specs.Journal.{Calls}
use Rattle.kept_serve.specs.Opened.{IsOpened, room_of}
use Rattle.kept_serve.proofs.serving.host_all.Given as goal

abbrev pub invariant-loop-opened : goal.invariant-loop-opened
invariant-loop-opened g l =
    let d = g.D.Disk in
    (goal.iterator-loop-opened g).can_next l.opened-iterator × (goal.iterator-loop-opened g).is_finite l.opened-iterator
    × All (λ r. IsOpened d.is_told d.seen d.may_leave d.moment d.left_since d.faults l.passes (room_of r) r) (into_iter_items l.opened-iterator)
    × All (λ r. g.O.Origin.start (room_of r) ≡ Some r.start.value) (into_iter_items l.opened-iterator)
    × (map (λ b. b.room.object.room) l.hosted.items ++ map room_of (into_iter_items l.opened-iterator) ≡ map room_of l.fn.rooms.items)
    × All (λ b. (past : Calls) × StandsFrom d.is_told d.seen d.may_leave d.moment d.left_since d.faults b.room.object.room (g.O.Origin.start b.room.object.room) b.room past) l.hosted.items
    × All (λ b. (past : Calls) → StandsFrom d.is_told d.seen d.may_leave d.moment d.left_since d.faults b.room.object.room (g.O.Origin.start b.room.object.room) b.room past
    → NobodyIn any_rules l.passes b.room.object.room past) l.hosted.items
    × (vec_len l.hosted + length (into_iter_items l.opened-iterator) ≡ vec_len l.fn.rooms)
    × (vec_len l.fn.rooms ≤ vec_capacity l.hosted)
