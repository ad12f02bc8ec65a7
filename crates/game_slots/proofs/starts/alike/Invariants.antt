-- So many entries are made.
use Rattle.std.proofs.Common.{◌≡◌, replicate, Some}
use Rattle.game_slots.specs.Slots.{slots_started}
use Rattle.game_slots.proofs.starts.alike.Given as goal

abbrev pub invariant-loop : goal.invariant-loop
invariant-loop l = l.entries.items ≡ replicate l.counter (Some (slots_started l.rows l.seats))
