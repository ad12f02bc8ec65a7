use Rattle.std.proofs.Common.{None, subst}
use Rattle.session_driver.proofs.Along.{hears_by, kept_along}
use Rattle.session_driver.specs.Hearing.{draws, side}
use Rattle.session_pool.proofs.Heeding.{heeds_heard}
use Rattle.session_pool.specs.Passes.{Belong}
use Rattle.session_pool.specs.Turn.{Calls}
use Rattle.session_pool.proofs.heed.hear_bytes.Goals as goal

pub returns-clause-heeds : goal.returns-clause-heeds
returns-clause-heeds g c =
    let h = hears_by _ (Calls g.B.Object.may_starve) (λ d. d.passes.now) (λ s p made t called. called.0) c.args.line.now _ (draws c.args.words.now None) _ _ c.hear-tally.result c.hear-tally.ensures.hears in
    heeds_heard g.B.Object.may_starve c.args.line.now (side c.args.rooms.now.passes.now c.args.core.now) (side c.hear-tally.new.rooms.passes.now c.hear-tally.new.core) c.args.words.now c.hear-tally.new.tape _
    c.hear-tally.result h

pub returns-clause-belong : goal.returns-clause-belong
returns-clause-belong g c =
    let h = c.hear-tally.ensures.hears in
    let same = kept_along _ (λ d. d.desks.now) (λ s p made t called. called.1) _ h.runs.makes.all _ h.runs.makes.made in
    subst (λ desks. Belong desks c.hear-tally.new.core.pass c.hear-tally.new.rooms.passes.now) same c.hear-tally.ensures.serves.1

pub returns-clause-same_passes : goal.returns-clause-same_passes
returns-clause-same_passes g c =
    let h = c.hear-tally.ensures.hears in
    kept_along _ (λ d. d.passes.ghost_name) (λ s p made t called. called.2) _ h.runs.makes.all _ h.runs.makes.made
