use Rattle.std.proofs.Common.{◌+◌, subst, sym}
use Rattle.session_hall.specs.Held.{AreBooks}
use Rattle.session_hall.proofs.Beginning.{new_rooms, push_book}
use Rattle.session_hall.proofs.hall.all_books.Goals as goal

pub loop-room-preserved : goal.loop-room-preserved
loop-room-preserved c =
    subst (λ x. AreBooks x (new_rooms (c.loop-room.room + 1))) (sym c.in_ok-push.ensures.items)
    (push_book c.loop-room.books.items c.loop-room.room c.in_ok-book.book c.loop-room.invariant c.in_ok-book.ensures.room c.in_ok-book.ensures.stands)
