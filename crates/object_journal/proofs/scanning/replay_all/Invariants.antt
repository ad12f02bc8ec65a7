use Rattle.std.proofs.Common.{◌≡◌, ◌<◌, ◌-◌, length}
use Rattle.object_journal.proofs.Scans.{Scanned}
use Rattle.object_journal.proofs.scanning.replay_all.Given as goal

abbrev pub invariant-records : goal.invariant-records
invariant-records g l = record {
  scanned : Scanned (g.O.Replays.may_follow (g.O.Object.number l.fn.object)) g.O.Object.stands_for g.O.Replays.has_come (g.O.Recorded.records (g.O.Object.number l.fn.object)) l.object l.bytes l.at;
  within : l.at < length l.bytes;
  same : g.O.Object.number l.object ≡ g.O.Object.number l.fn.object;
}

abbrev pub decreases-records : goal.decreases-records
decreases-records g l = length l.bytes - l.at
