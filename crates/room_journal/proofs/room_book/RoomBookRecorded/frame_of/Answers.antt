use Rattle.std.proofs.Common.{◌≡◌, true, arith, ap, ◌∙◌}
use Rattle.record_file.specs.Records.{framed}
use Rattle.room_journal.proofs.Adding.{frame_adds}
use Rattle.room_journal.proofs.room_book.RoomBookRecorded.frame_of.Goals as goal

pub returns : goal.returns
returns c h stands =
    let asks : c.in_ok-put_asked_change.field-0 ≡ true = grind (arith, c.if-not-branch.false) in
    frame_adds c.args.self.now.room c.args.self.now.book.room stands.same h c.args.pass c.args.call.now c.in_ok-frame.frame c.new-payload.result.items c.put_asked_change.new.out.items c.viewer_of.result c.in_ok-put_asked_change.field-0
    (c.viewer_of.ensures h stands.stands) c.in_ok-put_asked_change.ensures asks c.new-payload.ensures.items (c.in_ok-frame.ensures ∙ ap framed c.deref.ensures.value)
