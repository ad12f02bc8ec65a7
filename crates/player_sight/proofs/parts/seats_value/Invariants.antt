use Rattle.std.proofs.Common.{◌≡◌, map, take}
use Rattle.serde_json.specs.View.{view}
use Rattle.sheet_json.specs.Seats.{natural}
use Rattle.player_sight.proofs.parts.seats_value.Given as goal

abbrev pub invariant-loop-seat : goal.invariant-loop-seat
invariant-loop-seat l = map view l.list.items ≡ map natural (take l.seat-index l.seats)
