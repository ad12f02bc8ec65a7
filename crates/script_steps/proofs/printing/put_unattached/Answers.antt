use Rattle.std.proofs.Common.{ap}
use Rattle.hall_history.specs.Script.{to_session}
use Rattle.script_steps.proofs.Printed.{not_attached}
use Rattle.script_steps.proofs.StepLaws.{same_added}
use Rattle.script_steps.proofs.printing.put_unattached.Goals as goal

pub returns : goal.returns
returns c = same_added c.put_line.result c.args.text.now.items c.put_line.new.text.items _ _ (ap (to_session c.args.pass) not_attached) c.put_line.ensures
