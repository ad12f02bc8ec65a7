use Rattle.std.proofs.Common.{◌+◌, ◌-◌, ◌++◌, ◌∙◌, Some, take, drop, length, arith, ap, subst, sym}
use Rattle.board_links.specs.Pieces.{Writes, told_bytes}
use Rattle.board_links.specs.declared.sink.Put.TheVariants as put
use Rattle.door_serve.proofs.Booking.{first_of, line_of_room, rest_of}
use Rattle.door_serve.proofs.Printing.{fails_first, prints_on}
use Rattle.door_serve.specs.Report.{room_text, rooms_text}
use Rattle.door_serve.specs.Rooms.{hosted, row_of, rows_of}
use Rattle.door_serve.proofs.reporting.+print_rooms.Goals as goal

pub returns-in-Done-clause-told : goal.returns-in-Done-clause-told
returns-in-Done-clause-told g t c tells histories stand numbered =
    let known = hosted g.B.Object.number g.B.Object.stands_for g.B.HostedRoom.has_stopped in
    let rooms = c.args.rooms.now in
    let rest = take (length rooms - 1) (drop 1 rooms) in
    let room = c.first-item.result in
    let f = first_of known rooms rest room c.args.room histories (omega (arith, c.in-len1-up.len_at_least)) c.first-item.is (rest_of rooms) stand numbered in
    let line = c.room_line-line.ensures ∙ line_of_room known room f.0 c.args.room c.row.result f.4 c.row.ensures.stopped (c.row.ensures.row f.0 f.3) in
    let bytes = c.as_bytes.ensures.value ∙ (c.deref.ensures.0 ∙ line) in
    let before = told_bytes (g.K.Sink.held c.args.sink.now) in
    subst (λ rows. Writes c.print_rooms.result (rooms_text c.args.room rows) before (g.K.Sink.held c.print_rooms.new.sink)) (sym f.2)
    (prints_on c.print_rooms.result (room_text c.args.room (row_of known room f.0)) (rooms_text (c.args.room + 1) (rows_of known rest f.1)) before (g.K.Sink.held c.print.new.sink) (g.K.Sink.held c.print_rooms.new.sink)
    (c.in-Done.ensures.told tells ∙ ap (λ x. Some (before ++ x)) bytes) (c.print_rooms.ensures.told (c.print.ensures.tells tells) f.1 f.5 f.6))

pub returns-in-Failed-clause-told : goal.returns-in-Failed-clause-told
returns-in-Failed-clause-told g t c tells histories stand numbered =
    let known = hosted g.B.Object.number g.B.Object.stands_for g.B.HostedRoom.has_stopped in
    let rooms = c.args.rooms.now in
    let rest = take (length rooms - 1) (drop 1 rooms) in
    let room = c.first-item.result in
    let f = first_of known rooms rest room c.args.room histories (omega (arith, c.in-len1-up.len_at_least)) c.first-item.is (rest_of rooms) stand numbered in
    let line = c.room_line-line.ensures ∙ line_of_room known room f.0 c.args.room c.row.result f.4 c.row.ensures.stopped (c.row.ensures.row f.0 f.3) in
    let bytes = c.as_bytes.ensures.value ∙ (c.deref.ensures.0 ∙ line) in
    let before = told_bytes (g.K.Sink.held c.args.sink.now) in
    subst (λ rows. Writes put.Failed (rooms_text c.args.room rows) before (g.K.Sink.held c.print.new.sink)) (sym f.2)
    (fails_first (room_text c.args.room (row_of known room f.0)) (rooms_text (c.args.room + 1) (rows_of known rest f.1)) before (g.K.Sink.held c.print.new.sink)
    (subst (λ x. Writes put.Failed x before (g.K.Sink.held c.print.new.sink)) bytes (c.in-Failed.ensures.told tells)))
