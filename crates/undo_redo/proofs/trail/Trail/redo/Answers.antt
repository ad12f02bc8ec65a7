use Rattle.std.proofs.Common.{◌+◌, ◌<◌, length, arith, rules}
use Rattle.std.specs.Arc.{arc_value}
use Rattle.undo_redo.specs.Wound.{wound}
use Rattle.undo_redo.proofs.Trails.{redo_moves, redo_trail}
use Rattle.undo_redo.proofs.Winds.{act_at, shifts_on}
use Rattle.undo_redo.proofs.trail.Trail.redo.Goals as goal

pub returns-clause-moves : goal.returns-clause-moves
returns-clause-moves g c =
    let inside : c.self.inside.count < length c.self.inside.steps.items = first_of (omega (arith, c.self.invariant.0), search rules) in
    let act = act_at c.self.inside.steps.items c.self.inside.count inside in (
      act,
      redo_moves (g.M.Machine.stepped c.args.machine.now) (g.M.Machine.state_fits c.args.machine.now) (g.M.Machine.act_fits c.args.machine.now)
          act c.args.self.now (wound (arc_value c.self.inside.first) c.self.inside.steps.items (c.self.inside.count + 1))
          (shifts_on c.args.self.now (arc_value c.self.inside.first) c.self.inside.steps.items c.self.inside.count inside c.self.view_is) c.requires,
    )

pub returns-clause-trail : goal.returns-clause-trail
returns-clause-trail g c =
    let inside : c.self.inside.count < length c.self.inside.steps.items = first_of (omega (arith, c.self.invariant.0), search rules) in
    redo_trail (g.M.Machine.stepped c.args.machine.now) (g.M.Machine.state_fits c.args.machine.now) (g.M.Machine.act_fits c.args.machine.now)
    (act_at c.self.inside.steps.items c.self.inside.count inside) c.args.self.now (wound (arc_value c.self.inside.first) c.self.inside.steps.items (c.self.inside.count + 1))
    (shifts_on c.args.self.now (arc_value c.self.inside.first) c.self.inside.steps.items c.self.inside.count inside c.self.view_is) c.requires
