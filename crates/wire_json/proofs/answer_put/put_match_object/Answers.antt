use Rattle.wire_json.proofs.PlainWords.{row_put}
use Rattle.wire_json.proofs.answer_put.put_match_object.Goals as goal

pub returns-clause-text : goal.returns-clause-text
returns-clause-text c =
    row_put c.args.out.now.items c.extend_from_slice.new.self.items c.put_row.new.out.items c.extend_from_slice-2.new.self.items c.args.row.now
    c.in_ok-extend_from_slice.ensures.items c.in_ok-put_row.ensures.text c.in_ok-extend_from_slice-2.ensures.items
