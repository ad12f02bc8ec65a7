use Rattle.std.proofs.Common.{◌≡◌}
use Rattle.door_serve.specs.Rooms.{desks_of}
use Rattle.door_serve.proofs.keeping.keep.Given as goal

-- whatever the passes have seen, they are of the same desks
abbrev pub invariant-loop : goal.invariant-loop
invariant-loop g l =
    (goal.iterator-loop g).can_next l.iterator' × (goal.iterator-loop g).is_finite l.iterator' × (desks_of l.passes.items ≡ desks_of l.fn.passes.items)
