use Rattle.std.proofs.Common.{◌∙◌, refl}
use Rattle.room_journal.proofs.Acting.{stays_on, untouched}
use Rattle.room_journal.proofs.room_book.RoomBook.release.Goals as goal

pub seats-init : goal.seats-init
seats-init c = record { same = refl; room = refl; stays = λ room h stands. untouched room h _ stands }

pub seats-preserved : goal.seats-preserved
seats-preserved c = record {
  same = c.detach.ensures.same ∙ c.seats.invariant.same;
  room = c.detach.ensures.room ∙ c.seats.invariant.room;
  stays = λ room h stands. stays_on room h c.seats.self.book c.detach.new.self.book (c.seats.invariant.stays room h stands) (c.detach.ensures.stays room);
}
