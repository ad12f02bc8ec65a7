use Rattle.hall_history.specs.Script.{Says, all_to_session}
use Rattle.hall_history.specs.Tapes.{hall_tape}
use Rattle.script_steps.proofs.StepLaws.{does_by, heard}
use Rattle.world_script.proofs.doing.say.Goals as goal

pub returns : goal.returns
returns c = λ h s.
    let said = c.on_line-said.result in
    does_by c.put_lines-put.result h (Says c.args.pass c.args.line.now) c.on_line-said.new.self c.args.text.now.items c.put_lines-put.new.text.items (all_to_session c.args.pass said.line)
    (heard h c.on_line-said.new.self c.args.text.now.items c.put_lines-put.new.text.items c.args.pass c.args.line.now said.line said.again said.tally (c.on_line-said.ensures hall_tape h s))
    c.put_lines-put.ensures
