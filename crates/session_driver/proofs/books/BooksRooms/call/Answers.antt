use Rattle.session_driver.specs.Calls.{did}
use Rattle.session_driver.proofs.BookCalls.{as_many_books, keeps_order, named_call, one_call, stands_there}
use Rattle.session_driver.proofs.books.BooksRooms.call.Goals as goal

pub call-requires : goal.call-requires
call-requires g c =
    let b = g.B.Room in
    record {
      history = stands_there b.number b.stands_for b.whole c.args.self.now.books.items c.requires.serves.1 c.args.room c.index_mut.result.now c.requires.there c.index_mut.ensures.value;
    }

pub returns-clause-calls : goal.returns-clause-calls
returns-clause-calls g c =
    let b = g.B.Room in
    one_call b.number b.stands_for b.whole c.args.self.now.books.items c.args.room c.index_mut.result.now c.call.new.self c.args.pass c.args.call c.call.result
    c.requires.there c.index_mut.ensures.value c.call.ensures.number c.call.ensures.answered c.call.ensures.stands c.call.ensures.fed c.call.ensures.stopped

pub returns-clause-serves : goal.returns-clause-serves
returns-clause-serves g c =
    let b = g.B.Room in
    let books = c.args.self.now.books.items in (
      as_many_books b.number b.stands_for b.whole books c.args.room c.call.new.self c.requires.serves.0,
      keeps_order b.number b.stands_for b.whole books c.args.pass (did c.args.room c.args.call c.call.result) _ c.requires.serves.1
          (one_call b.number b.stands_for b.whole books c.args.room c.index_mut.result.now c.call.new.self c.args.pass c.args.call c.call.result
          c.requires.there c.index_mut.ensures.value c.call.ensures.number c.call.ensures.answered c.call.ensures.stands c.call.ensures.fed c.call.ensures.stopped),
    )

pub returns-clause-named : goal.returns-clause-named
returns-clause-named g c =
    let b = g.B.Room in
    let books = c.args.self.now.books.items in
    named_call b.number b.stands_for b.whole books c.args.pass (did c.args.room c.args.call c.call.result) _ c.requires.serves.1
    (one_call b.number b.stands_for b.whole books c.args.room c.index_mut.result.now c.call.new.self c.args.pass c.args.call c.call.result
    c.requires.there c.index_mut.ensures.value c.call.ensures.number c.call.ensures.answered c.call.ensures.stands c.call.ensures.fed c.call.ensures.stopped)
