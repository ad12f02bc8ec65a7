use Rattle.std.proofs.Common.{◌∙◌, ap, arith, sym}
use Rattle.board_commands.specs.Serving.{seats_asked}
use Rattle.board_server.proofs.Workers.{same_words}
use Rattle.board_server.proofs.edge.serve_there.Goals as goal

pub serve_door-requires-clause-workers : goal.serve_door-requires-clause-workers
serve_door-requires-clause-workers g c κs inside other said =
    let same = ap (λ asked. asked.workers) (same_words c.in-Ok.asked other (sym c.in-Ok.ensures.asked ∙ said)) in
    omega (arith, c.in-Ok-opened.ensures.workers, c.from.ensures, same)

pub serve_door-requires-clause-seats : goal.serve_door-requires-clause-seats
serve_door-requires-clause-seats g c κs inside other said =
    c.seats_of-seats.ensures ∙ ap (λ asked. seats_asked asked.bots) (same_words c.in-Ok.asked other (sym c.in-Ok.ensures.asked ∙ said))
