-- The number at one place more.
use Rattle.std.proofs.Common.{◌++◌, ap, ◌∙◌}
use Rattle.std.specs.Option.{option_to_list}
use Rattle.game_code.specs.Setting.{setting_of}
use Rattle.described_game.specs.Offers.{listed_item, rows_count}
use Rattle.described_game.specs.Rising.{number_below}
use Rattle.described_game.proofs.ListLemmas.{found_more}
use Rattle.described_game.proofs.groups.numbers_listed.Goals as goal

pub loop-place-preserved : goal.loop-place-preserved
loop-place-preserved c =
    let row = c.args.row.now in
    let item = listed_item row (setting_of c.args.scene.now) c.args.table.now in
    let value = c.number_below.ensures ∙ ap (λ n. number_below n c.listed_item-item.result) (c.rows_count-count.ensures ∙ ap rows_count c.as_slice.ensures) ∙ ap (number_below (rows_count row.ranges)) c.listed_item-item.ensures in
    found_more (number_below (rows_count row.ranges)) item c.loop-place.place c.loop-place.found.items c.push_found.new.found.items c.loop-place.invariant
    (c.in_ok-push_found.ensures ∙ ap (λ o. c.loop-place.found.items ++ option_to_list o) value)
