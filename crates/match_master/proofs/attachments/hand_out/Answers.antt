use Rattle.std.proofs.Common.{◌≡◌, None, is_some, nat_eq, sym, ap, ◌∙◌}
use Rattle.std.specs.List.{concat}
use Rattle.std.specs.Map.{lookup}
use Rattle.room_history.specs.Held.{attachment_take_reply}
use Rattle.room_history.specs.Outbox.{Attachment, Outbox}
use Rattle.room_history.specs.declared.reply.RoomReply.TheVariants as answer
use Rattle.match_master.specs.Attached.{all_held}
use Rattle.match_master.specs.declared.attachments.Attached.{Attached}
use Rattle.match_master.proofs.AttachedLaws.{becomes_emptied, becomes_none, nobody, none_of, taken_of}
use Rattle.match_master.proofs.attachments.hand_out.Goals as goal

pub returns-in_default-clause-reply : goal.returns-in_default-clause-reply
returns-in_default-clause-reply c = sym (ap attachment_take_reply (nobody c.args.attachments.now.entries c.args.pass (none_of _ (sym (ap is_some c.in_default.is) ∙ c.get_index_of.ensures.found))))

pub returns-in_default-clause-after : goal.returns-in_default-clause-after
returns-in_default-clause-after c = becomes_none (all_held c.args.attachments.now.entries) c.args.pass (nobody c.args.attachments.now.entries c.args.pass (none_of _ (sym (ap is_some c.in_default.is) ∙ c.get_index_of.ensures.found)))

pub returns-clause-reply : goal.returns-clause-reply
returns-clause-reply c =
    let v : Attached = c.in-Some-get_index_mut.attached.now in
    taken_of c.args.attachments.now.entries c.args.pass v c.take.result (sym c.in-Some.ensures.value ∙ sym c.in-Some-get_index_mut.ensures.value)
    (ap (λ b. answer.Taken b c.take.result.1) c.take.ensures.bytes ∙ ap (answer.Taken (concat ((v.outbox).now).waiting)) c.take.ensures.end)

pub returns-clause-after : goal.returns-clause-after
returns-clause-after c =
    let v : Attached = c.in-Some-get_index_mut.attached.now in
    becomes_emptied c.args.attachments.now.entries c.args.pass c.in-Some.place v (record v { outbox = c.take.new.self })
    (sym c.in-Some.ensures.value ∙ sym c.in-Some-get_index_mut.ensures.value) (sym c.in-Some.ensures.index)
    (ap (λ (o : Outbox). let a : Attachment = record { viewer = v.viewer; protocol = v.protocol; outbox = o } in a) c.take.ensures.emptied)
