-- The items so far have the value, and those that are left are as they were.
use Rattle.std.proofs.Common.{◌≡◌, ◌++◌, drop, replicate}
use Rattle.game_slots.specs.Keeping.{kept_items}
use Rattle.game_slots.proofs.kept.fill.Given as goal

abbrev pub invariant-loop-place : goal.invariant-loop-place
invariant-loop-place l = kept_items l.kept ≡ replicate l.place l.value ++ drop l.place (kept_items l.initial.kept)
