-- The entries so far are seen.
use Rattle.std.proofs.Common.{◌≡◌, take}
use Rattle.game_slots.specs.Tables.{seen_from}
use Rattle.game_slots.proofs.players.seen_players.Given as goal

abbrev pub invariant-loop-seat : goal.invariant-loop-seat
invariant-loop-seat l = l.items.items ≡ seen_from l.viewer 0 (take l.seat l.entries)
