use Rattle.std.proofs.Common.{sym, ap}
use Rattle.match_master.specs.Attached.{left_entry}
use Rattle.match_master.proofs.AttachedLaws.{held_set, length-set}
use Rattle.match_master.proofs.attachments.leave_at.Goals as goal

pub returns-clause-many : goal.returns-clause-many
returns-clause-many c = length-set c.args.attachments.now.entries c.args.place c.leave.new.attached

pub returns-clause-left : goal.returns-clause-left
returns-clause-left c =
    held_set c.args.attachments.now.entries c.args.place c.in-Some.attached.now c.leave.new.attached (left_entry c.args.who) (sym c.in-Some.ensures.value) (λ k. ap (λ a. (k, a)) (sym c.leave.ensures))
