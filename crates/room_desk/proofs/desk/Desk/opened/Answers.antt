use Rattle.std.proofs.Common.{ap, ◌∙◌, arith}
use Rattle.room_desk.proofs.Ends.{reaches_at, opens_at, filled, opened_as}
use Rattle.room_desk.proofs.desk.Desk.opened.Goals as goal

pub load-requires : goal.load-requires
load-requires g c =
    let made = c.in_ok-table.ensures in (
      made.2,
      let two = made.0 in omega arith,
      reaches_at g.O.Object.number g.O.Object.stands_for _ c.args.passes _ _ c.in_ok-table.seat.me (ap (λ b. b.passes) made.5) made.4 c.requires.count.0,
    )

pub fetch_add-requires : goal.fetch_add-requires
fetch_add-requires g c =
    let made = c.in_ok-table.ensures in
    let is = filled g.O.Object.number g.O.Object.stands_for c.args.passes c.in_ok-table.seat.me c.load.new.seat.me c.exchange.new.seat.me c.args.object made.4 c.load.ensures.2 c.exchange.ensures.3 in (
      c.exchange.ensures.0 ∙ (c.load.ensures.0 ∙ made.2),
      let two = made.0 in omega arith,
      opens_at g.O.Object.number g.O.Object.stands_for _ c.args.passes _ _ c.exchange.new.seat.me c.args.object c.requires.stands.0 (ap (λ b. b.passes) made.5) is c.requires.count.0 c.requires.stands.1,
    )

pub returns-clause-stands : goal.returns-clause-stands
returns-clause-stands g c =
    let is = filled g.O.Object.number g.O.Object.stands_for c.args.passes c.in_ok-table.seat.me c.load.new.seat.me c.exchange.new.seat.me c.args.object c.in_ok-table.ensures.4 c.load.ensures.2 c.exchange.ensures.3 in
    (opened_as g.O.Object.number g.O.Object.stands_for c.args.passes c.exchange.new.seat.me c.fetch_add.new.seat.me c.args.object c.requires.count.0 is c.fetch_add.ensures.2).0

pub returns-clause-seat : goal.returns-clause-seat
returns-clause-seat g c =
    let is = filled g.O.Object.number g.O.Object.stands_for c.args.passes c.in_ok-table.seat.me c.load.new.seat.me c.exchange.new.seat.me c.args.object c.in_ok-table.ensures.4 c.load.ensures.2 c.exchange.ensures.3 in
    (opened_as g.O.Object.number g.O.Object.stands_for c.args.passes c.exchange.new.seat.me c.fetch_add.new.seat.me c.args.object c.requires.count.0 is c.fetch_add.ensures.2).1
