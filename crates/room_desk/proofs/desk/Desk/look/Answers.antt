use Rattle.std.proofs.Common.{◌≡◌, ◌∷◌, length, ap, sym, ◌∙◌, arith}
use Rattle.room_desk.specs.History.{SetUp}
use Rattle.room_desk.specs.Turns.{past, number_in, before_in}
use Rattle.room_desk.specs.Plays.{noted, other_pasts}
use Rattle.room_desk.proofs.Looking.{together, looks}
use Rattle.room_desk.proofs.Parts.{joins, splits}
use Rattle.room_desk.proofs.desk.Desk.look.Goals as goal

pub join_seat-requires : goal.join_seat-requires
join_seat-requires g c =
    let m = c.args.seat.now.me in
    let rests = c.requires.rests in
    let other = c.requires.other_rests in
    let table = ap (λ (d : SetUp). d.desk.table) c.self.view_is in
    let one : length m.0.pasts ≡ 1 = ap (λ x. length x.0.pasts) rests in (
      c.requires.table ∙ sym table,
      c.requires.other_table ∙ sym table,
      ap (λ x. x.1) other,
      let two = c.self.invariant.0 in omega arith,
      joins g.O.Object.number g.O.Object.stands_for _ _ (noted m.0.object) _ m.0 c.args.other.me.0 (ap (λ x. x.0.object) rests) (omega arith) (ap (λ x. x.0.ticket) rests) (ap (λ x. x.0.turn) rests)
          (ap (λ x. x.0.ticket) other) (ap (λ x. x.0.turn) other),
    )

pub load-requires : goal.load-requires
load-requires g c =
    let m = c.args.seat.now.me in
    let is = together m c.args.other.me c.join_seat.new.seat.me c.requires.rests c.requires.other_rests c.join_seat.ensures.2 in (
      c.join_seat.ensures.0 ∙ (c.requires.table ∙ sym (ap (λ (d : SetUp). d.desk.table) c.self.view_is)),
      let two = c.self.invariant.0 in omega arith,
      looks g.O.Object.number g.O.Object.stands_for _ _ _ (noted m.0.object) _ _ c.join_seat.new.seat.me (ap (λ x. x.0.object) is) (ap (λ x. x.0.pasts) is) (ap (λ x. x.0.ticket) is) (ap (λ x. x.0.turn) is),
    )

pub split_seat-requires : goal.split_seat-requires
split_seat-requires g c =
    let m = c.args.seat.now.me in
    let o = c.args.other.me in
    let is = together m o c.join_seat.new.seat.me c.requires.rests c.requires.other_rests c.join_seat.ensures.2 in
    let looked = c.load.ensures.2 in
    let pasts = ap (λ x. x.0.pasts) looked.3 ∙ ap (λ x. past (number_in x.0.pasts) (before_in x.0.pasts) looked.0 ∷ other_pasts x.0.pasts) is in (
      c.load.ensures.0 ∙ (c.join_seat.ensures.0 ∙ (c.requires.table ∙ sym (ap (λ (d : SetUp). d.desk.table) c.self.view_is))),
      let two = c.self.invariant.0 in omega arith,
      splits g.O.Object.number g.O.Object.stands_for _ _ (noted m.0.object) (number_in o.0.pasts) (before_in o.0.pasts) looked.0 _ c.load.new.seat.me.0
          (ap (λ x. x.0.object) looked.3 ∙ ap (λ x. x.0.object) is) (ap (λ x. x.0.ticket) looked.3 ∙ ap (λ x. x.0.ticket) is) (ap (λ x. x.0.turn) looked.3 ∙ ap (λ x. x.0.turn) is) pasts,
    )
