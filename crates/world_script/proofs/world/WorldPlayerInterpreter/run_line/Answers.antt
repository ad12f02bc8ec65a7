use Rattle.std.proofs.Common.{ap, option_map, subst, sym, ◌∙◌}
use Rattle.client_world.specs.Steps.{step_of}
use Rattle.line_runner.specs.Play.{RunsLine}
use Rattle.world_script.specs.WorldDoing.{world_doing}
use Rattle.world_script.specs.WorldPlay.{world_play}
use Rattle.world_script.proofs.LineLaws.{world_bad, world_line}
use Rattle.world_script.proofs.world.WorldPlayerInterpreter.run_line.Goals as goal

pub returns-in-Ok-Some : goal.returns-in-Ok-Some
returns-in-Ok-Some c = λ w s.
    let stands = rw (← c.self.view_is) at s in
    subst (λ told. RunsLine world_play world_doing w c.args.line.now c.do_step.new.world c.args.text.now.items c.do_step.new.text.items told) (sym c.ended.ensures)
    (world_line c.do_step.result c.self.inside.world c.do_step.new.world c.args.line.now c.args.text.now.items c.do_step.new.text.items (step_of c.in-Ok-Some.step)
    (sym c.in-Ok-Some.ensures.step ∙ ap (option_map step_of) c.in-Ok-Some.field-0-is) c.do_step.ensures w stands)

pub returns-in-Ok-None : goal.returns-in-Ok-None
returns-in-Ok-None c = world_bad c.args.self.now c.args.line.now (sym c.in-Ok-None.ensures.step ∙ ap (option_map step_of) c.in-Ok-None.field-0-is)

pub returns-in-Err : goal.returns-in-Err
unfolding world_doing
returns-in-Err c = λ w s. tt
