-- The numbers of the groups so far.
use Rattle.std.proofs.Common.{◌≡◌, map, take}
use Rattle.game_code.specs.Setting.{setting_of}
use Rattle.described_game.specs.Offers.{group_numbers}
use Rattle.described_game.specs.declared.parts.ArgumentGroup.{ArgumentGroup}
use Rattle.described_game.proofs.offers.all_numbers.Given as goal

abbrev pub invariant-loop-group : goal.invariant-loop-group
invariant-loop-group l = l.numbers ≡ map (λ (group : ArgumentGroup). group_numbers group (setting_of l.scene) l.table) (take l.group-index l.groups)
