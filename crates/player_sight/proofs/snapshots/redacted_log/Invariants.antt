use Rattle.std.proofs.Common.{◌≡◌, map, take}
use Rattle.move_log.specs.Redact.{redact}
use Rattle.player_sight.proofs.snapshots.redacted_log.Given as goal

abbrev pub invariant-loop-entry : goal.invariant-loop-entry
invariant-loop-entry l = l.shown ≡ map (redact l.sheet l.viewer) (take l.entry-index l.log)
