use Rattle.std.proofs.Common.{Some, ap, ◌∙◌}
use Rattle.script_steps.proofs.FormLaws.{is_text}
use Rattle.script_steps.proofs.step.text_of.Goals as goal

pub returns-in-Ok : goal.returns-in-Ok
returns-in-Ok c = ap Some c.in-Ok.ensures.cases.0 ∙ is_text c.args.word.now c.in-Ok.ensures.cases.1
