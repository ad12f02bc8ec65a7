-- The numbers among the items so far.
use Rattle.std.proofs.Common.{◌≡◌, map}
use Rattle.std.specs.List.{filter_map, range_with_len}
use Rattle.game_code.specs.Setting.{setting_of}
use Rattle.described_game.specs.Offers.{listed_item, rows_count}
use Rattle.described_game.specs.Rising.{number_below}
use Rattle.described_game.proofs.groups.numbers_listed.Given as goal

abbrev pub invariant-loop-place : goal.invariant-loop-place
invariant-loop-place l = l.found.items ≡ filter_map (number_below (rows_count l.row.ranges)) (map (listed_item l.row (setting_of l.scene) l.table) (range_with_len 0 l.place))
