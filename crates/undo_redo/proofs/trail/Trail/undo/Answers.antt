use Rattle.std.proofs.Common.{◌≡◌, ◌+◌, ◌-◌, ◌<◌, length, arith}
use Rattle.std.specs.Arc.{arc_value}
use Rattle.undo_redo.specs.Wound.{wound}
use Rattle.undo_redo.proofs.Trails.{undo_moves, undo_trail}
use Rattle.undo_redo.proofs.Winds.{act_at, shifts_back}
use Rattle.undo_redo.proofs.trail.Trail.undo.Goals as goal

pub returns-clause-moves : goal.returns-clause-moves
returns-clause-moves g c =
    let more : c.self.inside.count ≡ c.self.inside.count - 1 + 1 = omega arith in
    let inside : c.self.inside.count - 1 < length c.self.inside.steps.items = omega (arith, c.self.invariant.0) in
    let shifts = shifts_back c.args.self.now (arc_value c.self.inside.first) c.self.inside.steps.items c.self.inside.count (c.self.inside.count - 1) inside c.self.view_is more in
    let act = act_at c.self.inside.steps.items (c.self.inside.count - 1) inside in (
      act,
      undo_moves (g.M.Machine.stepped c.args.machine.now) (g.M.Machine.state_fits c.args.machine.now) (g.M.Machine.act_fits c.args.machine.now)
          act c.args.self.now (wound (arc_value c.self.inside.first) c.self.inside.steps.items (c.self.inside.count - 1)) shifts c.requires,
    )

pub returns-clause-trail : goal.returns-clause-trail
returns-clause-trail g c =
    let more : c.self.inside.count ≡ c.self.inside.count - 1 + 1 = omega arith in
    let inside : c.self.inside.count - 1 < length c.self.inside.steps.items = omega (arith, c.self.invariant.0) in
    undo_trail (g.M.Machine.stepped c.args.machine.now) (g.M.Machine.state_fits c.args.machine.now) (g.M.Machine.act_fits c.args.machine.now)
    (act_at c.self.inside.steps.items (c.self.inside.count - 1) inside) c.args.self.now (wound (arc_value c.self.inside.first) c.self.inside.steps.items (c.self.inside.count - 1))
    (shifts_back c.args.self.now (arc_value c.self.inside.first) c.self.inside.steps.items c.self.inside.count (c.self.inside.count - 1) inside c.self.view_is more) c.requires
