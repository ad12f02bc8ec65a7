use Rattle.std.proofs.Common.{arith}
use denote.Param.Send.{sendable}
use Rattle.std.proofs.Crossing.{crosses}
use Rattle.kept_serve.proofs.Crossing.{opened_send}
use Rattle.kept_serve.proofs.Jobs.{each_came}
use Rattle.kept_serve.proofs.opening.open_jobs.Goals as goal

pub returns : goal.returns
returns g c =
    let d = g.D.Disk in
    each_came d.is_told d.seen d.may_leave d.moment d.left_since d.faults c.args.passes c.args.jobs.items c.in_ok-results.results.items
    (omega (arith, c.in_ok-results.ensures.len, c.in_ok-results.results.ok, c.args.jobs.ok))
    (λ i x low. let one = (c.in_ok-results.ensures.each i x low).1 in (one.job, one.job_is, one.call.met.0, one.call.met.1))

pub map_vec-requires-send-X : goal.map_vec-requires-send-X
map_vec-requires-send-X g c κs within = let room = opened_send _ c.type_bounds.send-D in search (sendable, crosses) depth 20
