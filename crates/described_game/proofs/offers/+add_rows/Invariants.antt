-- The groups get fewer; the offers so far and those of the rest of the numbers are all that are added.
use Rattle.std.proofs.Common.{◌≡◌, ◌++◌, ℕ, drop, length}
use Rattle.std.specs.List.{flat_map}
use Rattle.game_code.specs.Setting.{setting_of}
use Rattle.described_game.specs.Offers.{group_row, kept_rows, rows_after}
use Rattle.described_game.proofs.offers.+add_rows.Given as goal

abbrev pub decreases-add_rows : goal.decreases-add_rows
decreases-add_rows l = length l.groups.now

abbrev pub invariant-loop-number : goal.invariant-loop-number
invariant-loop-number l =
    let rows = λ (n : ℕ). rows_after (l.row ++ group_row l.group n) (drop 1 l.groups) (drop 1 l.numbers) in
    let o = l.offering in
    l.offers ++ kept_rows o.code.now o.id (setting_of o.scene.now) o.table.now (flat_map rows (drop l.number-index l.choices)) ≡ l.initial.offers ++ kept_rows o.code.now o.id (setting_of o.scene.now) o.table.now (flat_map rows l.choices)
