use Rattle.std.proofs.Common.{◌-◌, ◌<◌, length, arith}
use Rattle.std.specs.Arc.{arc_value}
use Rattle.undo_redo.proofs.Winds.{last_told}
use Rattle.undo_redo.proofs.trail.Trail.last_done.Goals as goal

pub returns-else-self-eq0 : goal.returns-else-self-eq0
returns-else-self-eq0 g c =
    let inside : c.self.inside.count - 1 < length c.self.inside.steps.items = omega (arith, c.self.invariant.0) in
    last_told c.args.self.now (arc_value c.self.inside.first) c.self.inside.steps.items c.self.inside.count (c.self.inside.count - 1) c.index.result.now c.act.result.now
    c.self.view_is (omega arith) inside c.index.ensures c.act.ensures
