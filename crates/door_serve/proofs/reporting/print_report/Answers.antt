use Rattle.std.proofs.Common.{◌++◌, ◌∙◌, Some, ap, subst}
use Rattle.board_links.specs.Pieces.{Writes, told_bytes}
use Rattle.board_links.specs.declared.sink.Put.TheVariants as put
use Rattle.door_serve.proofs.Printing.{fails_first, prints_on}
use Rattle.door_serve.specs.Report.{rooms_text, sessions_text}
use Rattle.door_serve.specs.Rooms.{hosted, rows_of}
use Rattle.door_serve.proofs.reporting.print_report.Goals as goal

pub returns-in-Done-clause-told : goal.returns-in-Done-clause-told
returns-in-Done-clause-told g c tells histories stand numbered =
    let known = hosted g.B.Object.number g.B.Object.stands_for g.B.HostedRoom.has_stopped in
    let bytes = c.as_bytes.ensures.value ∙ (c.deref.ensures.0 ∙ c.sessions_line.ensures) in
    let before = told_bytes (g.K.Sink.held c.args.sink.now) in
    prints_on c.print_rooms.result (sessions_text c.args.count) (rooms_text 0 (rows_of known c.args.rooms.now histories)) before (g.K.Sink.held c.print.new.sink) (g.K.Sink.held c.print_rooms.new.sink)
    (c.in-Done.ensures.told tells ∙ ap (λ x. Some (before ++ x)) bytes) (c.print_rooms.ensures.told (c.print.ensures.tells tells) histories stand numbered)

pub returns-in-Failed-clause-told : goal.returns-in-Failed-clause-told
returns-in-Failed-clause-told g c tells histories stand numbered =
    let known = hosted g.B.Object.number g.B.Object.stands_for g.B.HostedRoom.has_stopped in
    let bytes = c.as_bytes.ensures.value ∙ (c.deref.ensures.0 ∙ c.sessions_line.ensures) in
    let before = told_bytes (g.K.Sink.held c.args.sink.now) in
    fails_first (sessions_text c.args.count) (rooms_text 0 (rows_of known c.args.rooms.now histories)) before (g.K.Sink.held c.print.new.sink)
    (subst (λ x. Writes put.Failed x before (g.K.Sink.held c.print.new.sink)) bytes (c.in-Failed.ensures.told tells))
