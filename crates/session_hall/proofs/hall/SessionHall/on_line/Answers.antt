use Rattle.any_game.specs.GameKind.{GameKind}
use Rattle.any_game.specs.declared.any_g.AnyG.{AnyG}
use Rattle.match_master.specs.Held.{Held}
use Rattle.session_driver.specs.Hearing.{draws}
use Rattle.session_driver.specs.declared.books.Books.{Books}
use Rattle.session_driver.proofs.Along.{hears_by}
use Rattle.session_hall.proofs.Halls.{books_serve, line_driven, own_request, own_rooms, own_said, stands_for_one}
use Rattle.session_hall.proofs.RunsBooks.{calls_book}
use Rattle.session_hall.specs.Held.{StandsForHall}
use Rattle.std.proofs.Common.{subst, sym}
use Rattle.session_hall.proofs.hall.SessionHall.on_line.Goals as goal

pub hear-tally-requires : goal.hear-tally-requires
hear-tally-requires c =
    let h = c.self.invariant.0 in
    let s = c.self.invariant.1 in
    record {
      serves = books_serve _ _ h s;
      rooms = own_rooms _ _ h s c.args.pass c.requires c.index_mut-core.result.now c.index_mut-core.ensures.value;
      closed = own_request _ _ h s c.args.pass c.requires c.index_mut-core.result.now c.index_mut-core.ensures.value;
      written = own_said _ _ h s c.args.pass c.requires c.index_mut-core.result.now c.index_mut-core.ensures.value;
      live = s.tape_held.live;
    }

pub invariant_of-self : goal.invariant_of-self
invariant_of-self c =
    let d = c.hear-tally.new in
    let k = hears_by _ calls_book (λ (b : Books (Held GameKind AnyG)). b.books.items) (λ s p made t called. called) c.args.line.now _ _ _ _ c.hear-tally.result c.hear-tally.ensures.hears in
    stands_for_one _ _ _ (line_driven _ _ c.self.invariant.0 c.self.invariant.1 c.args.pass c.requires c.args.line.now c.index_mut-core.result.now c.index_mut-core.ensures.value
    d.core d.rooms.books.items (draws d.tape d.seed) c.hear-tally.result k c.written.new.self c.written.ensures.plain c.written.result c.written.ensures.line c.is_again.result c.is_again.ensures).heard.stands

pub returns : goal.returns
returns c = λ tape h s.
    let d = c.hear-tally.new in
    let k = hears_by _ calls_book (λ (b : Books (Held GameKind AnyG)). b.books.items) (λ s p made t called. called) c.args.line.now _ _ _ _ c.hear-tally.result c.hear-tally.ensures.hears in
    (line_driven tape _ h (subst (λ x. StandsForHall tape x h) (sym c.self.view_is) s) c.args.pass c.requires c.args.line.now c.index_mut-core.result.now c.index_mut-core.ensures.value
    d.core d.rooms.books.items (draws d.tape d.seed) c.hear-tally.result k c.written.new.self c.written.ensures.plain c.written.result c.written.ensures.line c.is_again.result c.is_again.ensures).heard
