use Rattle.std.proofs.Common.{sym, ◌∙◌}
use Rattle.match_master.specs.Attached.{all_held}
use Rattle.match_master.proofs.AttachedLaws.{taken_ended, taken_open}
use Rattle.match_master.proofs.attachments.take.Goals as goal

pub returns-then-has_ended-clause-after : goal.returns-then-has_ended-clause-after
returns-then-has_ended-clause-after c =
    taken_ended (all_held c.args.attachments.now.entries) (all_held c.hand_out-taken.new.attachments.entries) (all_held c.detach.new.attachments.entries) c.args.pass c.hand_out-taken.result
    c.hand_out-taken.ensures.reply (sym c.has_ended.ensures ∙ c.if-has_ended.true) c.hand_out-taken.ensures.after c.detach.ensures.gone

pub returns-clause-after : goal.returns-clause-after
returns-clause-after c =
    taken_open (all_held c.args.attachments.now.entries) (all_held c.hand_out-taken.new.attachments.entries) c.args.pass c.hand_out-taken.result
    c.hand_out-taken.ensures.reply (sym c.has_ended.ensures ∙ c.if-has_ended.false) c.hand_out-taken.ensures.after
