use Rattle.std.proofs.Common.{length}
use Rattle.session_driver.specs.Hearing.{side}
use Rattle.session_pool.proofs.Placing.{heard_on_line}
use Rattle.session_pool.proofs.heed.heed_there.Goals as goal

pub returns-clause-done : goal.returns-clause-done
returns-clause-done g c =
    let s = c.args.rooms.now in
    let heeds = c.hear_line.ensures.heeds in
    (heard_on_line g.B.Object.may_starve (length s.desks.now) c.args.line.now (side s.passes.now c.args.core.now) _ (side c.hear_line.new.rooms.passes.now c.hear_line.new.core) _ heeds.0
    c.requires.idle c.requires.attached heeds.1).done

pub returns-clause-attached : goal.returns-clause-attached
returns-clause-attached g c =
    let s = c.args.rooms.now in
    let heeds = c.hear_line.ensures.heeds in
    (heard_on_line g.B.Object.may_starve (length s.desks.now) c.args.line.now (side s.passes.now c.args.core.now) _ (side c.hear_line.new.rooms.passes.now c.hear_line.new.core) _ heeds.0
    c.requires.idle c.requires.attached heeds.1).attached

pub returns-clause-pass : goal.returns-clause-pass
returns-clause-pass g c =
    let s = c.args.rooms.now in
    let heeds = c.hear_line.ensures.heeds in
    (heard_on_line g.B.Object.may_starve (length s.desks.now) c.args.line.now (side s.passes.now c.args.core.now) _ (side c.hear_line.new.rooms.passes.now c.hear_line.new.core) _ heeds.0
    c.requires.idle c.requires.attached heeds.1).pass_is
