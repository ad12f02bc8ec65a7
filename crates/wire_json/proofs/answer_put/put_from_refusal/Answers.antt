use Rattle.wire_json.proofs.PlainWords.{refusal_put}
use Rattle.wire_json.proofs.answer_put.put_from_refusal.Goals as goal

pub returns : goal.returns
returns c =
    refusal_put c.args.out.now.items c.extend_from_slice.new.self.items c.put_word.new.out.items c.extend_from_slice-2.new.self.items c.args.refusal
    c.in_ok-extend_from_slice.ensures.items c.in_ok-put_word.ensures c.in_ok-extend_from_slice-2.ensures.items
