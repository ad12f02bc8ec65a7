use Rattle.std.proofs.Common.{◌≡◌, None, replicate}
use Rattle.room_journal.proofs.replaying.no_keys.Given as goal

abbrev pub invariant-seats : goal.invariant-seats
invariant-seats l = l.keys.items ≡ replicate l._seat None
