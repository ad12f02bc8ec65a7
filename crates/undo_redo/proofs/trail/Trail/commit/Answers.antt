use Rattle.std.proofs.Common.{◌+◌, refl}
use Rattle.std.specs.Arc.{arc_value}
use Rattle.undo_redo.specs.Wound.{wound}
use Rattle.undo_redo.proofs.Trails.{put_moves_to, put_trail_to}
use Rattle.undo_redo.proofs.Winds.{put_to}
use Rattle.undo_redo.proofs.trail.Trail.commit.Goals as goal

pub returns-clause-moves : goal.returns-clause-moves
returns-clause-moves g c =
    put_moves_to (g.M.Machine.stepped c.args.machine.now) (g.M.Machine.state_fits c.args.machine.now) (g.M.Machine.act_fits c.args.machine.now)
    c.args.step c.args.step.act c.args.self.now (wound (arc_value c.self.inside.first) c.put.new.steps.items (c.self.inside.count + 1)) refl
    (put_to c.args.self.now (arc_value c.self.inside.first) c.self.inside.steps.items c.self.inside.count c.put.new.steps.items c.args.step c.self.view_is c.self.invariant.0 c.put.ensures.steps)
    c.requires.step

pub returns-clause-trail : goal.returns-clause-trail
returns-clause-trail g c =
    put_trail_to (g.M.Machine.stepped c.args.machine.now) (g.M.Machine.state_fits c.args.machine.now) (g.M.Machine.act_fits c.args.machine.now)
    c.args.step c.args.step.act c.args.self.now (wound (arc_value c.self.inside.first) c.put.new.steps.items (c.self.inside.count + 1)) refl
    (put_to c.args.self.now (arc_value c.self.inside.first) c.self.inside.steps.items c.self.inside.count c.put.new.steps.items c.args.step c.self.view_is c.self.invariant.0 c.put.ensures.steps)
    c.requires.trail c.requires.act c.requires.state c.requires.step
