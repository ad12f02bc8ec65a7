use Rattle.std.proofs.Common.{◌≡◌, ◌<◌, ◌++◌, ◌∙◌, ap, arith, inl, length, map, subst, sym}
use Rattle.std.specs.Prelude.{All, [], vec_len}
use Rattle.board_links.specs.Pieces.{Writes, told_bytes}
use Rattle.session_pool.specs.Passes.{number_of}
use Rattle.session_pool.specs.Rooms.{numbers}
use Rattle.session_pool.specs.Sittings.{AreServed}
use Rattle.session_pool.specs.Watched.{AllBegin, StandsIn, seen_of}
use Rattle.session_pool.proofs.Places.{served_as}
use Rattle.session_pool.proofs.Seeing.{all_through}
use Rattle.door_serve.proofs.Booking.{as_many_rooms, numbered}
use Rattle.door_serve.proofs.Gathering.{as_many_back}
use Rattle.door_serve.proofs.OwnPasses.{all_put_back, as_many_put_back, of_watch}
use Rattle.door_serve.proofs.Printing.{by_end}
use Rattle.door_serve.specs.Ends.{Printed, end_of}
use Rattle.door_serve.specs.Report.{report}
use Rattle.door_serve.specs.Rooms.{Numbered, Stand, desks_of, hosted, rows_of}
use Rattle.door_serve.proofs.serving.serve_hall.Goals as goal

pub close_all-requires-clause-counts : goal.close_all-requires-clause-counts
close_all-requires-clause-counts g c k d low =
    let served = c.serve_with_keeper-served in
    let all =
    as_many_put_back (λ v. v.items) c.args.rows.items served.result.0.2.items c.put_back-rows.result.items served.result.1 served.result.0.4 c.put_back-rows.ensures served.ensures.handed in
    let rows = ap length c.as_mut_slice.ensures.value in
    omega (arith, all, rows, c.requires.counts k d low, c.requires.many.1, c.args.rows.ok)

pub close_all-requires-clause-spare : goal.close_all-requires-clause-spare
close_all-requires-clause-spare g c =
    let served = c.serve_with_keeper-served in
    let all =
    as_many_put_back (λ v. v.items) c.args.rows.items served.result.0.2.items c.put_back-rows.result.items served.result.1 served.result.0.4 c.put_back-rows.ensures served.ensures.handed in
    let rows = ap length c.as_mut_slice.ensures.value in (
      omega (arith, c.args.spare.many, c.requires.many.0),
      λ k d low. ((c.args.spare.empty k d low).0, omega (arith, all, rows, (c.args.spare.empty k d low).1, c.requires.many.1, c.args.rows.ok)),
    )

pub put_back-rows-requires-clause-room : goal.put_back-rows-requires-clause-room
put_back-rows-requires-clause-room g c =
    let back = as_many_back (λ v. v.items) c.args.rows.items c.serve_with_keeper-served.result.0.2.items c.serve_with_keeper-served.ensures.handed in
    omega (arith, back, c.serve_with_keeper-served.result.0.2.ok, c.args.spare.all_room, c.requires.many.1, c.args.rows.ok)

pub print_report-printed-requires : goal.print_report-printed-requires
print_report-printed-requires g c =
    let number = g.B.Object.number in
    let back = c.close_all.new.rooms.items in
    let are : map number back ≡ numbers 0 c.args.spare.rooms =
    c.close_all.ensures.numbers ∙ (ap (λ bs. map number bs ++ map (λ d. d.desk.object) c.args.desks.items) c.args.spare.none ∙ c.requires.objects) in
    let many = as_many_rooms number back 0 c.args.spare.rooms are in
    let seen = ap length c.as_slice.ensures.value in
    omega (arith, many, seen, c.requires.rooms.1)

pub close_all-requires-clause-rows : goal.close_all-requires-clause-rows
close_all-requires-clause-rows g c =
    let served = c.serve_with_keeper-served in
    subst (All (λ r. desks_of r.items ≡ map (λ d. d.desk) c.args.desks.items)) (sym c.as_mut_slice.ensures.value)
    (all_put_back (λ v. v.items) c.args.rows.items served.result.0.2.items c.put_back-rows.result.items served.result.1 served.result.0.4 c.put_back-rows.ensures served.ensures.handed
    c.args.desks.items c.requires.belong (served.ensures.own ∙ c.requires.own) served.ensures.watch)

pub serve_with_keeper-served-requires-clause-within : goal.serve_with_keeper-served-requires-clause-within
serve_with_keeper-served-requires-clause-within g c κs inside = subst (λ n. All (λ p. number_of p.items < n) c.args.rows.items) (sym c.requires.many.1) c.requires.within

pub returns-clause-served : goal.returns-clause-served
returns-clause-served g c =
    let served = c.serve_with_keeper-served in
    let told = g.D.Door.returned served.result.0.5 in
    subst (λ n. AreServed g.B.Object.may_starve c.args.seed n (seen_of c.args.watch.items) (λ s. Unit {0}) told) c.requires.many.1
    (served_as g.B.Object.may_starve c.args.seed (vec_len c.args.rows) (seen_of c.args.watch.items) (StandsIn (seen_of served.result.0.4.items)) (λ s. Unit {0}) (λ s known. tt) told served.ensures.served)

pub returns-clause-closed : goal.returns-clause-closed
returns-clause-closed g c =
    let number = g.B.Object.number in
    let stands_for = g.B.Object.stands_for in
    let back = c.close_all.new.rooms.items in
    let are : map number back ≡ numbers 0 c.args.spare.rooms =
    c.close_all.ensures.numbers ∙ (ap (λ bs. map number bs ++ map (λ d. d.desk.object) c.args.desks.items) c.args.spare.none ∙ c.requires.objects) in
    let stand = c.close_all.ensures.stand [] (subst (λ bs. Stand stands_for bs []) (sym c.args.spare.none) tt) in
    let served = c.serve_with_keeper-served in
    let watch = served.result.0.4 in
    let told = g.D.Door.returned served.result.0.5 in
    let begin =
    of_watch (λ r. AllBegin stand.0 (seen_of r.items)) served.result.0.2.items c.put_back-rows.result.items served.result.1 watch c.put_back-rows.ensures
    (subst (All (λ r. AllBegin stand.0 (seen_of r.items))) c.as_mut_slice.ensures.value stand.2) in
    inl (
      stand.0,
      record { many = as_many_rooms number back 0 c.args.spare.rooms are; numbered = numbered number back 0 c.args.spare.rooms are; stand = stand.1 },
      subst (λ n. AreServed g.B.Object.may_starve c.args.seed n (seen_of c.args.watch.items) (StandsIn stand.0) told) c.requires.many.1
          (served_as g.B.Object.may_starve c.args.seed (vec_len c.args.rows) (seen_of c.args.watch.items) (StandsIn (seen_of watch.items)) (StandsIn stand.0)
          (λ s known. all_through stand.0 (seen_of watch.items) (seen_of s.passes) begin known) told served.ensures.served),
    )

pub returns-clause-reports : goal.returns-clause-reports
returns-clause-reports g c tells =
    let number = g.B.Object.number in
    let stands_for = g.B.Object.stands_for in
    let known = hosted number stands_for g.B.HostedRoom.has_stopped in
    let back = c.close_all.new.rooms.items in
    let before = told_bytes (g.K.Sink.held c.args.sink.now) in
    let after = g.K.Sink.held c.print_report-printed.new.sink in
    let end = c.serve_with_keeper-served.result.0.0 in
    let put = c.print_report-printed.result in
    let are : map number back ≡ numbers 0 c.args.spare.rooms =
    c.close_all.ensures.numbers ∙ (ap (λ bs. map number bs ++ map (λ d. d.desk.object) c.args.desks.items) c.args.spare.none ∙ c.requires.objects) in
    let stand = c.close_all.ensures.stand [] (subst (λ bs. Stand stands_for bs []) (sym c.args.spare.none) tt) in
    let in_order = numbered number back 0 c.args.spare.rooms are in
    let rows = rows_of known back stand.0 in
    let told = c.print_report-printed.ensures.told tells stand.0 (subst (λ bs. Stand stands_for bs stand.0) (sym c.as_slice.ensures.value) stand.1)
    (subst (Numbered number 0) (sym c.as_slice.ensures.value) in_order) in
    let wrote = subst (λ bs. Writes put (report c.serve_with_keeper-served.result.0.1 (rows_of known bs stand.0)) before after) c.as_slice.ensures.value told in
    let printed = by_end end put (report c.serve_with_keeper-served.result.0.1 rows) before after wrote in
    let counted = subst (λ n. Printed (end_of end put) (report n rows) before after) (sym c.serve_with_keeper-served.ensures.given) printed in
    inl (
      stand.0,
      record { many = as_many_rooms number back 0 c.args.spare.rooms are; numbered = in_order; stand = stand.1 },
      subst (λ how. Printed how (report (g.D.Door.given c.serve_with_keeper-served.result.0.5) rows) before after) (sym c.end_of.ensures) counted,
    )
