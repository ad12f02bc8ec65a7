use Rattle.std.proofs.Common.{ap, sym, subst, ◌∙◌, arith}
use Rattle.room_desk.specs.History.{SetUp}
use Rattle.room_desk.specs.Plays.{noted, Waits}
use Rattle.room_desk.proofs.Trying.{tries}
use Rattle.room_desk.proofs.desk.Desk.wait.Goals as goal

pub compare_exchange-found-requires : goal.compare_exchange-found-requires
compare_exchange-found-requires g c =
    let m = c.loop.seat.me in
    let waits : Waits c.args.ticket m = subst (λ x. Waits c.args.ticket x) (sym c.loop.invariant.3) c.requires.waits in
    let is = waits.2 in (
      c.loop.invariant.2 ∙ (c.requires.table ∙ sym (ap (λ (d : SetUp). d.desk.table) c.self.view_is)),
      let two = c.self.invariant.0 in omega arith,
      tries g.O.Object.number g.O.Object.stands_for _ _ _ _ waits.0 (noted m.0.object) m (ap (λ x. x.0.object) is) (ap (λ x. x.0.pasts) is) (ap (λ x. x.0.ticket) is) (ap (λ x. x.0.turn) is) (ap (λ x. x.1) is) waits.1,
    )
