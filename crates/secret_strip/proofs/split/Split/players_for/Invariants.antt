use Rattle.std.proofs.Common.{◌≡◌, take}
use Rattle.secret_strip.specs.Strip.{seen_players}
use Rattle.secret_strip.proofs.split.Split.players_for.Given as goal

abbrev pub invariant-loop-seat : goal.invariant-loop-seat
invariant-loop-seat g l = l.players ≡ seen_players l.viewer (take l.seat l.entries)
