use Rattle.std.proofs.Common.{◌≡◌, ◌-◌, length}
use Rattle.record_file.proofs.FrontOf.{Reading}
use Rattle.record_file.proofs.reading.read_all.Given as goal

abbrev pub invariant-file : goal.invariant-file
invariant-file g l =
    let d = g.D.Disk in
    record {
      reads : d.is_told l.fn.disk → Reading d.is_told d.seen d.may_leave d.moment d.left_since l.fn.disk l.disk l.bytes.items;
      quiet : d.faults l.disk ≡ d.faults l.fn.disk;
    }

abbrev pub decreases-file : goal.decreases-file
decreases-file g l = l.count - length l.bytes.items
