use Rattle.any_game.specs.GameKind.{GameKind}
use Rattle.hall_history.specs.Rooms.{Rooms}
use Rattle.session_hall.specs.Held.{AreBooks}
use Rattle.session_hall.proofs.RoomByRoom.{OpensFrom}
use Rattle.session_hall.proofs.opening.open_match.Given as goal

-- every room so far was busy
abbrev pub invariant-loop-room : goal.invariant-loop-room
invariant-loop-room l = (rooms : Rooms GameKind) → AreBooks l.initial.books rooms → OpensFrom rooms l.game l.seats l.seed l.room l.books
