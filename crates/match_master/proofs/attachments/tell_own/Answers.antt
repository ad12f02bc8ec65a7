use Rattle.std.proofs.Common.{is_some, sym, ap, ◌∙◌}
use Rattle.room_history.specs.Outbox.{Attachment, Outbox}
use Rattle.match_master.specs.Outgoing.{Outgoing, with_line}
use Rattle.match_master.specs.declared.attachments.Attached.{Attached}
use Rattle.match_master.proofs.AttachedLaws.{held_same, none_of, on_err, told_nobody, told_own}
use Rattle.match_master.proofs.attachments.tell_own.Goals as goal

pub returns-in_default-clause-ok : goal.returns-in_default-clause-ok
returns-in_default-clause-ok c = told_nobody c.args.attachments.now.entries c.args.pass c.args.line.now.value.items (none_of _ (sym (ap is_some c.in_default.is) ∙ c.get_index_of.ensures.found))

pub returns-in_err-stage-clause-err : goal.returns-in_err-stage-clause-err
returns-in_err-stage-clause-err c =
    let v : Attached = c.in-Some-get_index_mut.attached.now in
    on_err c.from_residual.result _ (held_same c.args.attachments.now.entries c.in-Some.place v (record v { outbox = c.stage.new.self }) (sym c.in-Some-get_index_mut.ensures.value)
    (ap (λ (o : Outbox). let a : Attachment = record { viewer = v.viewer; protocol = v.protocol; outbox = o } in a) (c.stage.ensures.now ∙ ap (λ (o : Outgoing). o.now) c.unstage.ensures)))

pub returns-clause-ok : goal.returns-clause-ok
returns-clause-ok c =
    let v : Attached = c.in-Some-get_index_mut.attached.now in
    told_own c.args.attachments.now.entries c.args.pass c.in-Some.place c.args.line.now.value.items v (record v { outbox = c.commit.new.self })
    (sym c.in-Some.ensures.value ∙ sym c.in-Some-get_index_mut.ensures.value) (sym c.in-Some.ensures.index)
    (ap (λ (o : Outbox). let a : Attachment = record { viewer = v.viewer; protocol = v.protocol; outbox = o } in a)
    (ap (λ (o : Outgoing). o.now) c.commit.ensures ∙ c.in_ok-stage.ensures.next ∙ ap (λ (o : Outgoing). with_line c.args.line.now.value.items o.next) c.unstage.ensures))
