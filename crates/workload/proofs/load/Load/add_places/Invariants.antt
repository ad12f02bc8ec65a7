use Rattle.std.proofs.Common.{◌≡◌, ◌++◌}
use Rattle.world_history.specs.Workload.{places_from}
use Rattle.workload.proofs.load.Load.add_places.Given as goal

-- so many seats were added
abbrev pub invariant-loop-seat : goal.invariant-loop-seat
invariant-loop-seat l = l.self ≡ record l.initial.self { places = l.initial.self.places ++ places_from l.game l.name 0 l.seat }
