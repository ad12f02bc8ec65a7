use Rattle.std.proofs.Common.{◌≡◌, ◌∙◌, option_map}
use Rattle.std.proofs.lemmas.Result.{IfOk-weaker}
use Rattle.client_world.specs.Reading.{step_in, world_step_of}
use Rattle.client_world.specs.Steps.{step_of}
use Rattle.client_world.proofs.Texts.{text_step}
use Rattle.client_world.proofs.reading.read_world_step.Goals as goal

pub returns-in-Ok-clause-step : goal.returns-in-Ok-clause-step
returns-in-Ok-clause-step c =
    IfOk-weaker c.step_in.result (λ step. option_map step_of step ≡ step_in c.in-Ok.line.now) (λ step. option_map step_of step ≡ world_step_of c.args.line.now)
    (λ step e. e ∙ text_step c.args.line.now c.in-Some.first.now c.in-Ok.line.now c.in-Some.ensures.value c.if-first-eq35.false c.in-Ok.ensures.cases.0 c.in-Ok.ensures.cases.1) c.step_in.ensures.step
