use Rattle.std.proofs.Common.{◌≡◌, ◌+◌, ◌∷◌, ◌++◌, [], take, Some, ap, sym, subst, ◌∙◌}
use Rattle.std.specs.Arc.{arc_value}
use Rattle.undo_redo.specs.Wound.{wound}
use Rattle.undo_redo.proofs.Trails.{put_moves_to, put_trail_to}
use Rattle.undo_redo.proofs.Winds.{put_to}
use Rattle.undo_redo.proofs.trail.Trail.append.Goals as goal

pub returns-clause-moves : goal.returns-clause-moves
returns-clause-moves g c =
    let step = c.in_ok-step.step in
    let later : c.put_growing.new.steps.items ≡ take c.self.inside.count c.self.inside.steps.items ++ step ∷ [] = c.in_ok-put_growing.ensures.ok in
    let taken : g.M.Machine.stepped c.args.machine.now c.args.self.now.now c.args.act ≡ Some step.after = c.requires.step ∙ ap (λ s. Some s) (sym c.in_ok-step.ensures.after) in
    put_moves_to (g.M.Machine.stepped c.args.machine.now) (g.M.Machine.state_fits c.args.machine.now) (g.M.Machine.act_fits c.args.machine.now)
    step c.args.act c.args.self.now (wound (arc_value c.self.inside.first) c.put_growing.new.steps.items (c.self.inside.count + 1)) c.in_ok-step.ensures.act
    (put_to c.args.self.now (arc_value c.self.inside.first) c.self.inside.steps.items c.self.inside.count c.put_growing.new.steps.items step c.self.view_is c.self.invariant.0 later)
    taken

pub returns-clause-trail : goal.returns-clause-trail
returns-clause-trail g c =
    let step = c.in_ok-step.step in
    let later : c.put_growing.new.steps.items ≡ take c.self.inside.count c.self.inside.steps.items ++ step ∷ [] = c.in_ok-put_growing.ensures.ok in
    let taken : g.M.Machine.stepped c.args.machine.now c.args.self.now.now c.args.act ≡ Some step.after = c.requires.step ∙ ap (λ s. Some s) (sym c.in_ok-step.ensures.after) in
    put_trail_to (g.M.Machine.stepped c.args.machine.now) (g.M.Machine.state_fits c.args.machine.now) (g.M.Machine.act_fits c.args.machine.now)
    step c.args.act c.args.self.now (wound (arc_value c.self.inside.first) c.put_growing.new.steps.items (c.self.inside.count + 1)) c.in_ok-step.ensures.act
    (put_to c.args.self.now (arc_value c.self.inside.first) c.self.inside.steps.items c.self.inside.count c.put_growing.new.steps.items step c.self.view_is c.self.invariant.0 later)
    c.requires.trail c.requires.act (subst (g.M.Machine.state_fits c.args.machine.now) (sym c.in_ok-step.ensures.after) c.requires.state) taken
