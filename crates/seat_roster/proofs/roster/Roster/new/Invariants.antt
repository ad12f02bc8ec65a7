use Rattle.std.proofs.Common.{◌≡◌, None, replicate}
use Rattle.seat_roster.proofs.roster.Roster.new.Given as goal

abbrev pub invariant-seats : goal.invariant-seats
invariant-seats l = l.free.items ≡ replicate l._seat None
