use Rattle.std.proofs.Common.{◌≡◌, []}
use Rattle.any_game.specs.AnyRules.{any_rules}
use Rattle.any_game.specs.GameKind.{GameKind}
use Rattle.hall_history.specs.Rooms.{History}
use Rattle.match_master.specs.Held.{StandsFor}
use Rattle.session_hall.specs.Opens.{seated_in}
use Rattle.kept_room.specs.Journal.{Calls, Since}
use Rattle.kept_script.proofs.opening.seat_players.Given as goal

-- the seats so far have their players
abbrev pub invariant-loop-seat : goal.invariant-loop-seat
invariant-loop-seat g l = record {
  same : l.room.object.book.room ≡ l.initial.room.object.book.room;
  so_far : (h : History GameKind) → StandsFor any_rules l.initial.room.object.book h → StandsFor any_rules l.room.object.book (seated_in l.serial l.seat h);
  since : (more : Calls) × Since g.D.Disk.is_told g.D.Disk.seen g.D.Disk.may_leave g.D.Disk.moment g.D.Disk.left_since g.D.Disk.faults l.initial.room l.room more × (more ≡ seated_in l.serial l.seat []);
}
