use Rattle.json_text.proofs.Unescaped.{plain_text}
use Rattle.json_text.proofs.put.put_plain.Goals as goal

pub returns : goal.returns
returns c =
    plain_text c.args.out.now.items c.push.new.self.items c.extend_from_slice.new.self.items c.push-2.new.self.items c.as_bytes.result.now c.args.text.now
    c.in_ok-push.ensures.items c.as_bytes.ensures.value c.in_ok-extend_from_slice.ensures.items c.in_ok-push-2.ensures.items c.requires
