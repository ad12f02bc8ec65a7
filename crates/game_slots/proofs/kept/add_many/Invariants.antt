-- So many are added.
use Rattle.std.proofs.Common.{◌≡◌, ◌++◌, replicate}
use Rattle.game_slots.specs.Keeping.{kept_items}
use Rattle.game_slots.proofs.kept.add_many.Given as goal

abbrev pub invariant-loop : goal.invariant-loop
invariant-loop l = kept_items l.kept ≡ kept_items l.initial.kept ++ replicate l.counter l.value
