use Rattle.hall_history.specs.Script.{Takes}
use Rattle.hall_history.specs.Tapes.{hall_tape}
use Rattle.script_steps.specs.Printing.{reply_text}
use Rattle.script_steps.proofs.StepLaws.{took, does_by}
use Rattle.world_script.proofs.doing.take.Goals as goal

pub returns : goal.returns
returns c = λ h s.
    does_by c.put_reply-put.result h (Takes c.args.pass) c.take-reply.new.self c.args.text.now.items c.put_reply-put.new.text.items (reply_text c.args.pass c.take-reply.result)
    (took h c.take-reply.new.self c.args.text.now.items c.put_reply-put.new.text.items c.args.pass c.take-reply.result (c.take-reply.ensures hall_tape h s))
    c.put_reply-put.ensures
