use Rattle.session_driver.proofs.Along.{kept_along}
use Rattle.session_driver.specs.Hearing.{draws, side}
use Rattle.kept_script.proofs.Runs.{hears_kept, over_one}
use Rattle.kept_script.proofs.visiting.hear_there.Goals as goal

pub returns-clause-same : goal.returns-clause-same
returns-clause-same g c =
    let d = g.D.Disk in
    let h = c.hear.ensures.hears in
    kept_along (over_one d.is_told d.seen d.may_leave d.moment d.left_since d.faults) (λ e. e.room.ghost_name) (λ s p made t called. called.1) _ h.runs.makes.all _ h.runs.makes.made

pub returns-clause-hears : goal.returns-clause-hears
returns-clause-hears g c =
    let d = g.D.Disk in
    hears_kept d.is_told d.seen d.may_leave d.moment d.left_since d.faults g.met.D.Disk.only_now c.args.line.now
    (side c.args.rooms.now c.args.core.now) (draws c.args.tape.now c.args.seed.now) (side c.hear.new.rooms c.hear.new.core) (draws c.hear.new.tape c.hear.new.seed) c.hear.result c.hear.ensures.hears
