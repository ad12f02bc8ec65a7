use Rattle.session_hall.specs.Held.{AreBooks}
use Rattle.session_hall.proofs.Beginning.{new_rooms}
use Rattle.session_hall.proofs.hall.all_books.Given as goal

-- the rooms so far have their books
abbrev pub invariant-loop-room : goal.invariant-loop-room
invariant-loop-room l = AreBooks l.books.items (new_rooms l.room)
