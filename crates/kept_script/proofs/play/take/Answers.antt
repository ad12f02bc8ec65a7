use Rattle.std.proofs.lemmas.Result.{on_ok_weaker}
use Rattle.script_steps.proofs.StepLaws.{took}
use Rattle.kept_script.specs.KeptPlay.{hall_of}
use Rattle.kept_script.proofs.play.take.Goals as goal

pub returns : goal.returns
returns g c =
    let m = c.take-reply.ensures.freed in
    record {
      done = record {
        more = m.more;
        since = m.since;
        comes = λ h s.
            let hall = hall_of c.take-reply.new.self in
            let freed = m.comes h s in
            on_ok_weaker c.put_reply-put.result
            (λ e. (took h hall c.args.text.now.items c.put_reply-put.new.text.items c.args.pass c.take-reply.result freed.0 e, freed.1))
            c.put_reply-put.ensures;
      };
    }
