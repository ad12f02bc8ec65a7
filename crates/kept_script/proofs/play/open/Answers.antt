use Rattle.std.proofs.lemmas.Result.{on_ok_weaker}
use Rattle.script_steps.proofs.StepLaws.{opened}
use Rattle.kept_script.specs.KeptPlay.{hall_of}
use Rattle.kept_script.proofs.play.open.Goals as goal

pub returns-in-Ok : goal.returns-in-Ok
returns-in-Ok g c =
    let m = c.in-Ok.ensures.opened in
    record {
      done = record {
        more = m.more;
        since = m.since;
        comes = λ h s.
            let hall = hall_of c.open.new.self in
            let opens = m.comes h s in
            on_ok_weaker c.put_opened.result
            (λ e. (opened h hall c.args.text.now.items c.put_opened.new.text.items c.args.game.now c.args.seats c.in-Ok.made opens.0 e, opens.1))
            c.put_opened.ensures;
      };
    }

pub returns-in-Err : goal.returns-in-Err
returns-in-Err g c = record { done = record { more = c.open.ensures.opened.more; since = c.open.ensures.opened.since; comes = λ h s. tt } }
