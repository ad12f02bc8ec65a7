use Rattle.std.proofs.lemmas.Result.{on_ok_weaker}
use Rattle.script_steps.proofs.StepLaws.{detached}
use Rattle.kept_script.specs.KeptPlay.{hall_of}
use Rattle.kept_script.proofs.play.detach.Goals as goal

pub returns : goal.returns
returns g c =
    let m = c.detach-reply.ensures.freed in
    record {
      done = record {
        more = m.more;
        since = m.since;
        comes = λ h s.
            let hall = hall_of c.detach-reply.new.self in
            let freed = m.comes h s in
            on_ok_weaker c.put_reply-put.result
            (λ e. (detached h hall c.args.text.now.items c.put_reply-put.new.text.items c.args.pass c.detach-reply.result freed.0 e, freed.1))
            c.put_reply-put.ensures;
      };
    }
