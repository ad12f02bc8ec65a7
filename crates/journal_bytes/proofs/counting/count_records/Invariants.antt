use Rattle.std.proofs.Common.{◌≡◌, ◌≤◌, ◌-◌, ℕ, List, length}
use Rattle.record_file.specs.Records.{EndsAfter}
use Rattle.journal_bytes.proofs.Counts.{Left}
use Rattle.journal_bytes.proofs.counting.count_records.Given as goal

abbrev pub invariant-records : goal.invariant-records
invariant-records l = record {
  left : (records : List (List ℕ)) → EndsAfter l.bytes records → Left l.bytes l.at l.count records;
  counted : l.count ≤ l.at;
  few : length l.bytes ≤ 1 → l.count ≡ 0;
  within : l.at ≤ length l.bytes;
}

abbrev pub decreases-records : goal.decreases-records
decreases-records l = length l.bytes - l.at
