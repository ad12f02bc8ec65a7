use Rattle.std.proofs.Common.{arith}
use Rattle.std.proofs.lemmas.Result.{IfOk-weaker}
use Rattle.kept_serve.proofs.Jobs.{all_given, are_opened, as_many, came_all, low_numbers, were_refused}
use Rattle.kept_serve.proofs.opening.open_rooms.Goals as goal

pub open_jobs-requires-after_bounds : goal.open_jobs-requires-after_bounds
open_jobs-requires-after_bounds g c κs within = low_numbers (λ j. j.room) c.in_ok-jobs.jobs.items c.args.rooms c.requires c.in_ok-jobs.ensures.numbered

pub gather-requires : goal.gather-requires
gather-requires g c =
    let d = g.S.D.Disk in
    let jobs = as_many (λ j. j.room) c.in_ok-jobs.jobs.items c.args.rooms c.in_ok-jobs.ensures.numbered in
    let results = came_all d.is_told d.seen d.may_leave d.moment d.left_since d.faults c.args.passes c.in_ok-jobs.jobs.items c.in-Ok.results.items c.in-Ok.ensures in
    omega (arith, jobs, results, c.in-Ok.results.ok, c.requires)

pub returns-in-Ok-clause-opened : goal.returns-in-Ok-clause-opened
returns-in-Ok-clause-opened g c =
    let d = g.S.D.Disk in
    IfOk-weaker c.gather.result _ _
    (λ r kept. are_opened d.is_told d.seen d.may_leave d.moment d.left_since d.faults c.args.passes c.in_ok-jobs.jobs.items c.in-Ok.results.items r.items c.args.rooms c.in_ok-jobs.ensures.numbered c.in-Ok.ensures kept)
    c.gather.ensures.all

pub returns-in-Ok-clause-given : goal.returns-in-Ok-clause-given
returns-in-Ok-clause-given g c =
    let d = g.S.D.Disk in
    IfOk-weaker c.gather.result _ _
    (λ r kept. all_given d.is_told d.seen d.may_leave d.moment d.left_since d.faults c.args.passes c.in_ok-jobs.jobs.items c.in-Ok.results.items r.items c.args.rooms c.in_ok-jobs.ensures.numbered c.in-Ok.ensures kept
    (g.S.Shelf.given c.args.shelf.now) (g.S.Shelf.given c.take_disks.new.shelf) (g.S.Shelf.given c.gather.new.shelf) c.in_ok-jobs.ensures.given c.gather.ensures.given)
    c.gather.ensures.all

pub returns-in-Ok-clause-refused : goal.returns-in-Ok-clause-refused
returns-in-Ok-clause-refused g c =
    let d = g.S.D.Disk in
    were_refused d.is_told d.seen d.may_leave d.moment d.left_since d.faults c.args.passes c.in_ok-jobs.jobs.items c.in-Ok.results.items c.args.rooms c.gather.result (g.S.Shelf.given c.args.shelf.now)
    (g.S.Shelf.given c.take_disks.new.shelf) (g.S.Shelf.given c.gather.new.shelf) (g.S.Shelf.faults c.args.shelf.now) (g.S.Shelf.faults c.gather.new.shelf) c.in_ok-jobs.ensures.numbered c.in-Ok.ensures
    c.in_ok-jobs.ensures.given c.gather.ensures.given c.gather.ensures.refused
