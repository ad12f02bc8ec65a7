use Rattle.hall_history.specs.Script.{Opens}
use Rattle.hall_history.specs.Tapes.{hall_tape}
use Rattle.session_hall.specs.Answered.{made_text}
use Rattle.script_steps.proofs.StepLaws.{does_by, opened}
use Rattle.world_script.proofs.doing.open.Goals as goal

pub returns : goal.returns
returns c = λ h s.
    does_by c.put_opened.result h (Opens c.args.game.now c.args.seats) c.open.new.self c.args.text.now.items c.put_opened.new.text.items (made_text c.in_ok-made.made)
    (opened h c.open.new.self c.args.text.now.items c.put_opened.new.text.items c.args.game.now c.args.seats c.in_ok-made.made (c.in_ok-made.ensures hall_tape h s))
    c.put_opened.ensures
