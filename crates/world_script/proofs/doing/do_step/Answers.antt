use Rattle.std.proofs.Common.{refl, subst, sym}
use Rattle.hall_history.specs.Tapes.{hall_tape}
use Rattle.line_runner.specs.Play.{Does}
use Rattle.script_steps.specs.ScriptDoing.{script_doing}
use Rattle.script_steps.specs.StepIs.{step_is}
use Rattle.script_steps.proofs.StepLaws.{did_nothing, seeded}
use Rattle.world_script.proofs.doing.do_step.Goals as goal

pub returns-in-Nothing : goal.returns-in-Nothing
returns-in-Nothing c = λ h s.
    let text = c.args.text.now.items in
    subst (λ step. Does script_doing h (step_is step) c.args.hall.now text text) (sym c.in-Nothing.is) (did_nothing h c.args.hall.now text text s refl)

pub returns-in-Seeds : goal.returns-in-Seeds
returns-in-Seeds c = λ h s.
    let text = c.args.text.now.items in
    subst (λ step. Does script_doing h (step_is step) c.set_seed.new.self text text) (sym c.in-Seeds.is) (seeded h c.set_seed.new.self text text c.in-Seeds.seed (c.set_seed.ensures hall_tape h s) refl)
