use Rattle.std.proofs.Common.{◌<◌, length, arith, rules}
use Rattle.std.specs.Arc.{arc_value}
use Rattle.undo_redo.proofs.Winds.{ahead_told}
use Rattle.undo_redo.proofs.trail.Trail.ahead.Goals as goal

pub returns-then-self-len : goal.returns-then-self-len
returns-then-self-len g c =
    let inside : c.self.inside.count < length c.self.inside.steps.items = first_of (omega (arith, c.len.ensures), search rules) in
    ahead_told c.args.self.now (arc_value c.self.inside.first) c.self.inside.steps.items c.self.inside.count c.index.result.now (arc_value c.kept.result.now)
    c.self.view_is inside c.index.ensures c.kept.ensures
