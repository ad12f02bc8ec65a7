use Rattle.std.proofs.Common.{◌≡◌, ◌++◌, drop, map}
use Rattle.std.specs.List.{enumerate_from}
use Rattle.seat_roster.specs.Roster.{public_rows, row_of}
use Rattle.seat_roster.proofs.roster.Roster.public_rows.Given as goal

-- the rows so far stand before those of the seats that are left
abbrev pub invariant-rows : goal.invariant-rows
invariant-rows l = l.rows ++ map row_of (enumerate_from l.place (drop l.place l.holder-items)) ≡ public_rows l.self
