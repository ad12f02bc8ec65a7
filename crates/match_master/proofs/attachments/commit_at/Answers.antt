use Rattle.std.proofs.Common.{sym, ap}
use Rattle.match_master.specs.Attached.{sent}
use Rattle.match_master.specs.declared.attachments.Attached.{Attached}
use Rattle.match_master.proofs.AttachedLaws.{set_is}
use Rattle.match_master.proofs.attachments.commit_at.Goals as goal

pub returns : goal.returns
returns c =
    let v : Attached = c.in-Some.attached.now in
    set_is c.args.attachments.now.entries c.args.place v (record v { outbox = c.commit.new.self }) sent (sym c.in-Some.ensures.value)
    (λ k h. ap (λ o. let w : Attached = record v { outbox = o } in (k, w)) (sym c.commit.ensures))
