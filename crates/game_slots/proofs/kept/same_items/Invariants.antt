-- The items so far are the same.
use Rattle.std.proofs.Common.{◌≡◌, take}
use Rattle.game_slots.specs.Keeping.{kept_items}
use Rattle.game_slots.proofs.kept.same_items.Given as goal

abbrev pub invariant-loop-place : goal.invariant-loop-place
invariant-loop-place l = take l.place (kept_items l.one) ≡ take l.place (kept_items l.other)
