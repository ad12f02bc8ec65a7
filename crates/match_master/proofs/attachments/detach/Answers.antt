use Rattle.match_master.proofs.AttachedLaws.{released}
use Rattle.match_master.proofs.attachments.detach.Goals as goal

pub returns-clause-gone : goal.returns-clause-gone
returns-clause-gone c = released c.args.attachments.now.entries c.shift_remove-gone.new.self.entries c.args.pass (λ q. c.shift_remove-gone.ensures.updates.0 q)
