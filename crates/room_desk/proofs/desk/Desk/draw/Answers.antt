use Rattle.std.proofs.Common.{ap, sym, ◌∙◌, arith, length, ◌≡◌}
use Rattle.room_desk.specs.History.{SetUp}
use Rattle.room_desk.specs.Plays.{noted}
use Rattle.room_desk.proofs.Draw.{draws}
use Rattle.room_desk.proofs.desk.Desk.draw.Goals as goal

pub fetch_add-requires : goal.fetch_add-requires
fetch_add-requires g c =
    let m = c.args.seat.now.me in
    let rests = c.requires.rests in
    let one : length m.0.pasts ≡ 1 = ap (λ x. length x.0.pasts) rests in (
      c.requires.table ∙ sym (ap (λ (d : SetUp). d.desk.table) c.self.view_is),
      let two = c.self.invariant.0 in omega arith,
      draws g.O.Object.number g.O.Object.stands_for _ _ _ (noted m.0.object) m (ap (λ x. x.0.object) rests) (ap (λ x. x.0.ticket) rests) (ap (λ x. x.0.turn) rests) (omega arith),
    )
