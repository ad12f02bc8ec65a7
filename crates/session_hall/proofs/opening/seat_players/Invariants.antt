use Rattle.std.proofs.Common.{◌≡◌}
use Rattle.any_game.specs.AnyRules.{any_rules}
use Rattle.any_game.specs.GameKind.{GameKind}
use Rattle.hall_history.specs.Rooms.{History}
use Rattle.match_master.specs.Held.{StandsFor}
use Rattle.session_hall.specs.Opens.{seated_in}
use Rattle.session_hall.proofs.opening.seat_players.Given as goal

-- the seats so far have their players
abbrev pub invariant-loop-seat : goal.invariant-loop-seat
invariant-loop-seat l = record {
  room : l.book.room ≡ l.initial.book.room;
  so_far : (h : History GameKind) → StandsFor any_rules l.initial.book h → StandsFor any_rules l.book (seated_in l.serial l.seat h);
}
