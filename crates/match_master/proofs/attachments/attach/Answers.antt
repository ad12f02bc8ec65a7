use Rattle.std.proofs.Common.{nat_eq, ap, ◌∙◌}
use Rattle.indexmap.specs.IndexMap.{insert_entry}
use Rattle.room_history.specs.Outbox.{Attachment, Outbox}
use Rattle.match_master.specs.Attached.{all_held}
use Rattle.match_master.proofs.AttachedLaws.{held_put}
use Rattle.match_master.proofs.attachments.attach.Goals as goal

pub returns-in-Ok-clause-ok : goal.returns-in-Ok-clause-ok
returns-in-Ok-clause-ok c =
    ap all_held c.in-Ok.ensures.entries ∙ held_put c.args.attachments.now.entries c.args.pass _
    ∙ ap (λ (o : Outbox). let a : Attachment = record { viewer = c.args.viewer; protocol = c.args.protocol; outbox = o } in insert_entry nat_eq (all_held c.args.attachments.now.entries) c.args.pass a) c.in_ok-outbox.ensures
