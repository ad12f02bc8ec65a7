use Rattle.std.proofs.Common.{ap, ◌++◌, ◌∙◌}
use Rattle.client_world.specs.Steps.{step_of}
use Rattle.hall_history.specs.Tapes.{hall_tape}
use Rattle.world_script.proofs.LineLaws.{world_did}
use Rattle.world_script.proofs.world.do_step.Goals as goal

pub returns : goal.returns
returns c = λ w s.
    world_did w (step_of c.args.step) c.run.new.self c.args.text.now.items c.in_ok-said.said.items c.extend_from_slice.new.self.items (c.in_ok-said.ensures hall_tape w s)
    (c.in_ok-extend_from_slice.ensures.items ∙ ap (λ t. c.args.text.now.items ++ t) c.as_slice.ensures.value)
