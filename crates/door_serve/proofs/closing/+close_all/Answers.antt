use Rattle.std.proofs.Common.{◌≡◌, ◌≤◌, ◌++◌, ◌∷◌, ap, arith, length, map, rules, subst, sym, ◌∙◌}
use Rattle.std.specs.Prelude.{[], replicate, vec_capacity}
use Rattle.std.proofs.lemmas.List.{append-nil, nil_from_length}
use Rattle.door_serve.proofs.Booking.{as_many_more, numbers_on}
use Rattle.door_serve.proofs.Gathering.{all_last, as_many, rows_end}
use Rattle.door_serve.proofs.Watching.{none_begun, one_room_more, rows_begin}
use Rattle.door_serve.specs.Rooms.{Stand}
use Rattle.door_serve.proofs.closing.+close_all.Goals as goal

pub take_last-requires-clause-none : goal.take_last-requires-clause-none
take_last-requires-clause-none g t c =
    (all_last (λ v. (v.items ≡ []) × (length c.args.rows.now ≤ vec_capacity v)) c.args.spare.now.items c.pop-2.new.self.items c.in-Some-pop.passes c.in-Some-pop.ensures.items c.requires.spare.1).1.0

pub take_last-requires-clause-room : goal.take_last-requires-clause-room
take_last-requires-clause-room g t c =
    let e = (all_last (λ v. (v.items ≡ []) × (length c.args.rows.now ≤ vec_capacity v)) c.args.spare.now.items c.pop-2.new.self.items c.in-Some-pop.passes c.in-Some-pop.ensures.items c.requires.spare.1).1 in
    omega (arith, ap length e.0, e.1, c.in-Some-pop.passes.ok)

pub take_last-requires-clause-rows : goal.take_last-requires-clause-rows
take_last-requires-clause-rows g t c =
    rows_end (λ v. v.items) c.args.desks.now.items c.as_slice.result.now c.in-Some.desk c.args.rows.now (c.in-Some.ensures.items ∙ ap (λ l. l ++ c.in-Some.desk ∷ []) (sym c.as_slice.ensures.value)) c.requires.rows

pub close-requires : goal.close-requires
close-requires g t c =
    let all = (all_last (λ d. d.passes ≡ length c.args.rows.now) c.args.desks.now.items c.pop.new.self.items c.in-Some.desk c.in-Some.ensures.items c.requires.counts).1 in
    c.take_last.ensures.passes ∙ ap (λ n. replicate n c.in-Some.desk.desk) (sym all)

pub returns-clause-numbers : goal.returns-clause-numbers
returns-clause-numbers g t c =
    numbers_on g.B.Object.number (λ d. d.desk.object) c.args.rooms.now.items c.close_all.new.rooms.items c.push_reserved.new.self.items c.args.desks.now.items c.pop.new.self.items c.in-Some.desk c.close.result
    c.in-Some.ensures.items c.close_all.ensures.numbers c.push_reserved.ensures.items c.close.ensures.number

pub returns-clause-stand : goal.returns-clause-stand
returns-clause-stand g t c before stand =
    let more = c.close_all.ensures.stand before stand in
    let here = c.close.ensures.stands in
    let taken = as_many c.take_last.new.passes.items (length c.args.rows.now) c.in-Some.desk.desk c.take_last.ensures.passes in (
      more.0 ++ here.0 ∷ [],
      one_room_more g.B.Object.stands_for c.close_all.new.rooms.items c.push_reserved.new.self.items c.close.result before more.0 here.0 c.push_reserved.ensures.items more.1 here.1,
      rows_begin (λ v. v.items) c.args.rows.now c.take_last.new.rows c.take_last.new.passes.items more.0 here.0 c.take_last.ensures.many taken c.take_last.ensures.taken more.2 here.2,
    )

pub push_reserved-requires : goal.push_reserved-requires
push_reserved-requires g t c =
    let many = as_many_more g.B.Object.number (λ d. d.desk.object) c.args.rooms.now.items c.close_all.new.rooms.items c.pop.new.self.items c.close_all.ensures.numbers in
    omega (arith, many, c.close_all.new.rooms.ok, c.args.rooms.now.ok, c.pop.new.self.ok, c.close_all.ensures.room, c.requires.room, c.in-Some.ensures.cases)

pub returns-in_default-clause-stand : goal.returns-in_default-clause-stand
returns-in_default-clause-stand g t c before stand =
    let none : c.args.desks.now.items ≡ [] = nil_from_length c.args.desks.now.items (search rules) in (
      [],
      subst (Stand g.B.Object.stands_for c.args.rooms.now.items) (sym (append-nil before)) stand,
      none_begun (λ v. v.items) c.args.rows.now (map (λ d. d.desk) c.args.desks.now.items) (ap (map (λ d. d.desk)) none) c.requires.rows,
    )

pub close_all-requires : goal.close_all-requires
close_all-requires g t c κs within =
    let fewer = all_last (λ d. d.passes ≡ length c.args.rows.now) c.args.desks.now.items c.pop.new.self.items c.in-Some.desk c.in-Some.ensures.items c.requires.counts in
    let left = all_last (λ v. (v.items ≡ []) × (length c.args.rows.now ≤ vec_capacity v)) c.args.spare.now.items c.pop-2.new.self.items c.in-Some-pop.passes c.in-Some-pop.ensures.items c.requires.spare.1 in
    let many = c.take_last.ensures.many in (
      search rules,
      (
        within,
        (
          λ k d low. fewer.0 k d low ∙ sym many,
          (
            λ k d low. c.take_last.ensures.rows k d low ∙ ap (λ ds. map (λ d. d.desk) ds) c.as_slice.ensures.value,
            (
              (search rules, λ k d low. ((left.0 k d low).0, omega (arith, many, (left.0 k d low).1))),
              search rules,
            ),
          ),
        ),
      ),
    )
