use Rattle.std.proofs.Common.{ℕ}
use Rattle.kept_room.specs.Hosting.{NobodyAfter}
use Rattle.kept_room.specs.Journal.{Calls, stands_in}
use Rattle.kept_room.specs.Opened.{IsOpenedAs}
use Rattle.kept_room.proofs.opening.emptied.Given as goal

-- the passes so far are detached
abbrev pub invariant-loop-pass : goal.invariant-loop-pass
invariant-loop-pass g l = record {
  stands : (h : Calls) × stands_in l.room.object h;
  opened : (number : ℕ) (disk : g.row.D.Denot) (first : Calls)
      → IsOpenedAs g.D.Disk.is_told g.D.Disk.seen g.D.Disk.may_leave g.D.Disk.moment g.D.Disk.left_since g.D.Disk.faults number disk first l.initial.room
      → (after : Calls) × IsOpenedAs g.D.Disk.is_told g.D.Disk.seen g.D.Disk.may_leave g.D.Disk.moment g.D.Disk.left_since g.D.Disk.faults number disk after l.room × NobodyAfter number l.pass after;
}
