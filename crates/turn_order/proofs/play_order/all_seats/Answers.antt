use Rattle.std.proofs.Common.{◌≡◌, ◌++◌, ◌∷◌, [], ◌∙◌, ap, arith}
use Rattle.turn_order.proofs.Seats.{range_more, all_seats_serve}
use Rattle.turn_order.proofs.play_order.all_seats.Goals as goal

pub loop-seat-preserved : goal.loop-seat-preserved
loop-seat-preserved c = c.in_ok-push.ensures.ok ∙ ap (λ order. order ++ c.loop-seat.seat ∷ []) c.loop-seat.invariant ∙ range_more c.loop-seat.seat

pub returns-clause-serves : goal.returns-clause-serves
returns-clause-serves c =
    let whole : c.loop-seat.seat ≡ c.args.seats = omega arith in
    rw (c.loop-seat.invariant, whole) (all_seats_serve c.args.seats c.requires.least c.requires.most)
