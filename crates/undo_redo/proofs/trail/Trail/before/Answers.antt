use Rattle.std.proofs.Common.{◌≡◌, ◌+◌, ◌-◌, ◌<◌, length, arith}
use Rattle.std.specs.Arc.{arc_value}
use Rattle.undo_redo.proofs.Winds.{before_told}
use Rattle.undo_redo.proofs.trail.Trail.before.Goals as goal

pub returns-else-self-eq1 : goal.returns-else-self-eq1
returns-else-self-eq1 g c =
    let more : c.self.inside.count ≡ c.self.inside.count - 2 + 1 + 1 = omega arith in
    let inside : c.self.inside.count - 2 + 1 < length c.self.inside.steps.items = omega (arith, c.self.invariant.0) in
    before_told c.args.self.now (arc_value c.self.inside.first) c.self.inside.steps.items c.self.inside.count (c.self.inside.count - 2) c.index.result.now (arc_value c.kept.result.now)
    c.self.view_is more inside c.index.ensures c.kept.ensures
