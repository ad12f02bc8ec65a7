use Rattle.std.proofs.Common.{ap, option_map, subst, sym, ◌∙◌}
use Rattle.line_runner.specs.Play.{RunsLine}
use Rattle.script_steps.specs.ScriptDoing.{script_doing}
use Rattle.world_script.specs.ScriptPlay.{script_play}
use Rattle.script_steps.specs.StepIs.{step_is}
use Rattle.world_script.proofs.LineLaws.{script_bad, script_line}
use Rattle.world_script.proofs.script.ScriptHallInterpreter.run_line.Goals as goal

pub returns-in-Some : goal.returns-in-Some
returns-in-Some c = λ h s.
    let stands = rw (← c.self.view_is) at s in
    subst (λ told. RunsLine script_play script_doing h c.args.line.now c.do_step.new.hall c.args.text.now.items c.do_step.new.text.items told) (sym c.ended.ensures)
    (script_line c.do_step.result c.self.inside.hall c.do_step.new.hall c.args.line.now c.args.text.now.items c.do_step.new.text.items (step_is c.in-Some.step)
    (sym c.step_of.ensures.value ∙ ap (option_map step_is) c.in-Some.is) c.do_step.ensures h stands)

pub returns-in-None : goal.returns-in-None
returns-in-None c = script_bad c.args.self.now c.args.line.now (sym c.step_of.ensures.value ∙ ap (option_map step_is) c.in-None.is)
