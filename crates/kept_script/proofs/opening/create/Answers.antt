use Rattle.std.proofs.Common.{[], ◌∙◌, ap, sym}
use Rattle.kept_room.proofs.Journals.{since_none}
use Rattle.kept_script.specs.Growing.{creating_calls}
use Rattle.kept_script.proofs.opening.create.Goals as goal

pub returns-in-Ok-None-clause-since : goal.returns-in-Ok-None-clause-since
returns-in-Ok-None-clause-since g c =
    let d = g.D.Disk in (
      [],
      since_none d.is_told d.seen d.may_leave d.moment d.left_since d.faults g.met.D.Disk.only_now c.args.room.now,
      ap (λ f. creating_calls f c.args.seats c.args.seed) (sym c.in-Ok-None.field-0-is ∙ c.in-Ok-None.ensures),
    )

pub returns-in-Err-clause-since : goal.returns-in-Err-clause-since
returns-in-Err-clause-since g c =
    let d = g.D.Disk in
    ([], since_none d.is_told d.seen d.may_leave d.moment d.left_since d.faults g.met.D.Disk.only_now c.args.room.now, tt)
