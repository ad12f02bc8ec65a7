use Rattle.std.proofs.lemmas.Result.{on_ok_weaker}
use Rattle.kept_script.specs.KeptPlay.{hall_of}
use Rattle.kept_script.proofs.Moving.{said_grows}
use Rattle.kept_script.proofs.play.say.Goals as goal

pub returns : goal.returns
returns g c =
    let m = c.on_line-said.ensures.heard in
    let said = c.on_line-said.result in
    record {
      done = record {
        more = m.more;
        since = m.since;
        comes = λ h s.
            let hall = hall_of c.on_line-said.new.self in
            let heard = m.comes h s in
            on_ok_weaker c.put_lines-put.result
            (said_grows h hall c.args.text.now.items c.put_lines-put.new.text.items c.args.pass c.args.line.now said.line said.again said.tally m.more heard.0 heard.1)
            c.put_lines-put.ensures;
      };
    }
