use Rattle.std.proofs.Common.{ap, sym, ◌∙◌, Some}
use Rattle.room_desk.specs.History.{SetUp}
use Rattle.room_desk.specs.Turns.{before_in, seen_in}
use Rattle.room_desk.specs.Plays.{noted}
use Rattle.room_desk.proofs.Calling.{alone, taken_as, TakenAs, entered}
use Rattle.room_desk.proofs.desk.Desk.enter.Goals as goal

pub exchange-requires : goal.exchange-requires
exchange-requires g c =
    let m = c.args.seat.now.me in
    let drawn = c.draw-ticket.ensures.drawn in
    let taken : TakenAs g.O.Object.number g.O.Object.stands_for (noted m.0.object) c.args.number drawn.0 (before_in m.0.pasts) (seen_in m.0.pasts)
    c.wait.new.seat.me =
    taken_as g.O.Object.number g.O.Object.stands_for c.draw-ticket.new.seat.me c.wait.new.seat.me _ _ _ _ _ drawn.2 c.wait.ensures.taken in (
      c.wait.ensures.table ∙ (c.draw-ticket.ensures.table ∙ (c.requires.table ∙ sym (ap (λ (d : SetUp). d.desk.table) c.self.view_is))),
      (Some taken.0, alone c.wait.new.seat.me.1 (0, Some taken.0) (ap (λ x. x.1) taken.5)),
    )

pub returns-clause-entered : goal.returns-clause-entered
returns-clause-entered g c =
    let m = c.args.seat.now.me in
    let drawn = c.draw-ticket.ensures.drawn in
    let taken : TakenAs g.O.Object.number g.O.Object.stands_for (noted m.0.object) c.args.number drawn.0 (before_in m.0.pasts) (seen_in m.0.pasts)
    c.wait.new.seat.me =
    taken_as g.O.Object.number g.O.Object.stands_for c.draw-ticket.new.seat.me c.wait.new.seat.me _ _ _ _ _ drawn.2 c.wait.ensures.taken in
    entered g.O.Object.number g.O.Object.stands_for c.wait.new.seat.me c.exchange.new.seat.me _ _ _ _ _ c.exchange.result _ taken c.exchange.ensures.2 c.unwrap.ensures c.exchange.ensures.3
