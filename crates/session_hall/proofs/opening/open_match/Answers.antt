use Rattle.std.proofs.Common.{ap, arith, refl, slice_index_or, subst}
use Rattle.session_hall.proofs.RoomByRoom.{OpensFrom, busy_next, made_ends, opens_first, opens_full, refused_ends, serial_there, stand_after}
use Rattle.session_hall.proofs.opening.open_match.Goals as goal

pub loop-room-init : goal.loop-room-init
loop-room-init c = λ rooms a. opens_first rooms c.args.game.now c.args.seats c.args.seed c.args.books.now a

pub loop-room-preserved : goal.loop-room-preserved
loop-room-preserved c = λ rooms a. busy_next rooms c.args.game.now c.args.seats c.args.seed c.loop-room.room (omega (arith, c.loop-room-test.true, a.count)) c.loop-room.books (c.loop-room.invariant rooms a)
    (slice_index_or c.loop-room.books c.loop-room.room c.index-books-room.result) (ap (λ d. slice_index_or c.loop-room.books c.loop-room.room d) c.index-books-room.is) c.create.new.book c.create.ensures.room c.create.result c.create.ensures.created c.in-Busy.is

pub new-requires-clause-serial : goal.new-requires-clause-serial
new-requires-clause-serial c = serial_there c.requires.stand.0 c.args.game.now c.args.seats c.args.seed c.loop-room.room (omega (arith, c.loop-room-test.true, c.requires.stand.1.count)) c.loop-room.books (c.loop-room.invariant c.requires.stand.0 c.requires.stand.1)
    (slice_index_or c.loop-room.books c.loop-room.room c.index-books-room.result) (ap (λ d. slice_index_or c.loop-room.books c.loop-room.room d) c.index-books-room.is) c.create.new.book c.create.ensures.room c.create.result c.create.ensures.created c.in-Made.serial c.in-Made.is

pub returns-in-Made-clause-opened : goal.returns-in-Made-clause-opened
returns-in-Made-clause-opened c = λ rooms a. made_ends rooms c.args.game.now c.args.seats c.args.seed c.loop-room.room (omega (arith, c.loop-room-test.true, a.count)) c.loop-room.books (c.loop-room.invariant rooms a)
    (slice_index_or c.loop-room.books c.loop-room.room c.index-books-room.result) (ap (λ d. slice_index_or c.loop-room.books c.loop-room.room d) c.index-books-room.is) c.create.new.book c.create.ensures.room c.create.result c.create.ensures.created c.in-Made.serial c.in-Made.is
    c.seat_players.new.book c.seat_players.ensures.room c.in_ok-seat_players-in-Made.ensures.seated c.new.result c.new.ensures

pub returns-in-Made-clause-stand : goal.returns-in-Made-clause-stand
returns-in-Made-clause-stand c = λ rooms a. stand_after rooms c.args.game.now c.args.seats c.args.seed c.loop-room.room (omega (arith, c.loop-room-test.true, a.count)) c.loop-room.books (c.loop-room.invariant rooms a)
    (slice_index_or c.loop-room.books c.loop-room.room c.index-books-room.result) (ap (λ d. slice_index_or c.loop-room.books c.loop-room.room d) c.index-books-room.is) c.create.new.book c.create.ensures.room c.create.result c.create.ensures.created c.seat_players.new.book c.seat_players.ensures.room c.seat_players.ensures.stands

pub returns-in_err-seat_players-in-Made-clause-stand : goal.returns-in_err-seat_players-in-Made-clause-stand
returns-in_err-seat_players-in-Made-clause-stand c = λ rooms a. stand_after rooms c.args.game.now c.args.seats c.args.seed c.loop-room.room (omega (arith, c.loop-room-test.true, a.count)) c.loop-room.books (c.loop-room.invariant rooms a)
    (slice_index_or c.loop-room.books c.loop-room.room c.index-books-room.result) (ap (λ d. slice_index_or c.loop-room.books c.loop-room.room d) c.index-books-room.is) c.create.new.book c.create.ensures.room c.create.result c.create.ensures.created c.seat_players.new.book c.seat_players.ensures.room c.seat_players.ensures.stands

pub returns-in-Refused-clause-opened : goal.returns-in-Refused-clause-opened
returns-in-Refused-clause-opened c = λ rooms a. refused_ends rooms c.args.game.now c.args.seats c.args.seed c.loop-room.room (omega (arith, c.loop-room-test.true, a.count)) c.loop-room.books (c.loop-room.invariant rooms a)
    (slice_index_or c.loop-room.books c.loop-room.room c.index-books-room.result) (ap (λ d. slice_index_or c.loop-room.books c.loop-room.room d) c.index-books-room.is) c.create.new.book c.create.ensures.room c.create.result c.create.ensures.created c.in-Refused.is

pub returns-in-Refused-clause-stand : goal.returns-in-Refused-clause-stand
returns-in-Refused-clause-stand c = λ rooms a. stand_after rooms c.args.game.now c.args.seats c.args.seed c.loop-room.room (omega (arith, c.loop-room-test.true, a.count)) c.loop-room.books (c.loop-room.invariant rooms a)
    (slice_index_or c.loop-room.books c.loop-room.room c.index-books-room.result) (ap (λ d. slice_index_or c.loop-room.books c.loop-room.room d) c.index-books-room.is) c.create.new.book c.create.ensures.room c.create.result c.create.ensures.created c.create.new.book refl (λ h s. (h, s))

pub returns-in-Starved-clause-stand : goal.returns-in-Starved-clause-stand
returns-in-Starved-clause-stand c = λ rooms a. stand_after rooms c.args.game.now c.args.seats c.args.seed c.loop-room.room (omega (arith, c.loop-room-test.true, a.count)) c.loop-room.books (c.loop-room.invariant rooms a)
    (slice_index_or c.loop-room.books c.loop-room.room c.index-books-room.result) (ap (λ d. slice_index_or c.loop-room.books c.loop-room.room d) c.index-books-room.is) c.create.new.book c.create.ensures.room c.create.result c.create.ensures.created c.create.new.book refl (λ h s. (h, s))

pub returns-clause-opened : goal.returns-clause-opened
returns-clause-opened c = λ rooms a. opens_full rooms c.args.game.now c.args.seats c.args.seed c.loop-room.books
    (subst (λ n. OpensFrom rooms c.args.game.now c.args.seats c.args.seed n c.loop-room.books) (omega (arith, c.loop-room-test.false, a.count)) (c.loop-room.invariant rooms a))
