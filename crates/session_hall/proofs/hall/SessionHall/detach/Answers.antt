use Rattle.any_game.specs.GameKind.{GameKind}
use Rattle.any_game.specs.declared.any_g.AnyG.{AnyG}
use Rattle.match_master.specs.Held.{Held}
use Rattle.room_history.specs.declared.call.RoomCall.TheVariants as call
use Rattle.session_driver.specs.declared.books.Books.{Books}
use Rattle.session_driver.proofs.Along.{frees_by}
use Rattle.session_hall.proofs.Halls.{books_serve, freed_by_driver, own_rooms, stands_for_one}
use Rattle.session_hall.proofs.RunsBooks.{calls_book}
use Rattle.session_hall.specs.Held.{StandsForHall}
use Rattle.std.proofs.Common.{refl, subst, sym}
use Rattle.session_hall.proofs.hall.SessionHall.detach.Goals as goal

pub detach-requires : goal.detach-requires
detach-requires c =
    let h = c.self.invariant.0 in
    let s = c.self.invariant.1 in
    record {
      serves = books_serve _ _ h s;
      rooms = own_rooms _ _ h s c.args.pass c.requires c.index_mut.result.now c.index_mut.ensures.value;
    }

pub invariant_of-self : goal.invariant_of-self
invariant_of-self c =
    let d = c.detach.new in
    stands_for_one _ _ _ (freed_by_driver _ _ c.self.invariant.0 c.self.invariant.1 c.args.pass c.requires call.Detach refl c.index_mut.result.now c.index_mut.ensures.value
    c.detach.result d.rooms.books.items d.core
    (frees_by _ calls_book (λ (b : Books (Held GameKind AnyG)). b.books.items) (λ s p made t called. called) call.Detach _ c.detach.result _ c.detach.ensures.detaches)).stands

pub returns : goal.returns
returns c = λ tape h s.
    let d = c.detach.new in
    freed_by_driver tape _ h (subst (λ x. StandsForHall tape x h) (sym c.self.view_is) s) c.args.pass c.requires call.Detach refl c.index_mut.result.now c.index_mut.ensures.value
    c.detach.result d.rooms.books.items d.core
    (frees_by _ calls_book (λ (b : Books (Held GameKind AnyG)). b.books.items) (λ s p made t called. called) call.Detach _ c.detach.result _ c.detach.ensures.detaches)
