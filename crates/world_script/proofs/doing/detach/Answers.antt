use Rattle.hall_history.specs.Script.{Detaches}
use Rattle.hall_history.specs.Tapes.{hall_tape}
use Rattle.script_steps.specs.Printing.{reply_text}
use Rattle.script_steps.proofs.StepLaws.{detached, does_by}
use Rattle.world_script.proofs.doing.detach.Goals as goal

pub returns : goal.returns
returns c = λ h s.
    does_by c.put_reply-put.result h (Detaches c.args.pass) c.detach-reply.new.self c.args.text.now.items c.put_reply-put.new.text.items (reply_text c.args.pass c.detach-reply.result)
    (detached h c.detach-reply.new.self c.args.text.now.items c.put_reply-put.new.text.items c.args.pass c.detach-reply.result (c.detach-reply.ensures hall_tape h s))
    c.put_reply-put.ensures
