-- The numbers of a list in rising order, each once.
use Rattle.std.proofs.Common.{sym, ap, ◌∙◌}
use Rattle.game_code.specs.Setting.{setting_of}
use Rattle.described_game.specs.Offers.{group_numbers, listed_items, rows_count}
use Rattle.described_game.specs.declared.parts.ArgumentGroup.{ArgumentGroup}
use Rattle.described_game.proofs.RisingLemmas.{listed_numbers}
use Rattle.described_game.proofs.groups.group_numbers.Goals as goal

pub returns-in_ok-found-in-Listed : goal.returns-in_ok-found-in-Listed
returns-in_ok-found-in-Listed c =
    let row = c.in-Listed.listed in
    let s = setting_of c.args.scene.now in
    listed_numbers (rows_count row.ranges) (listed_items row s c.args.table.now) c.in_ok-found-in-Listed.found.items c.in_order.result c.in_ok-found-in-Listed.ensures c.in_order.ensures.rises c.in_order.ensures.same
    ∙ sym (ap (λ (g : ArgumentGroup). group_numbers g s c.args.table.now) c.in-Listed.is)
