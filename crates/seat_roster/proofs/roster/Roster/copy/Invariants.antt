use Rattle.std.proofs.Common.{◌≡◌, take}
use Rattle.seat_roster.proofs.roster.Roster.copy.Given as goal

abbrev pub invariant-seats : goal.invariant-seats
invariant-seats l = l.seats.items ≡ take l.holder-index l.self
