use Rattle.std.proofs.Common.{◌≡◌, ◌++◌, length, drop, option_map}
use Rattle.serde_json.specs.View.{items_view}
use Rattle.sheet_json.specs.Arguments.{argument_in}
use Rattle.json_tree.specs.Fields.{read_each}
use Rattle.sheet_json.proofs.arguments.args_of.Given as goal

-- what was read so far stands before what the rest reads as
abbrev pub invariant-loop-item : goal.invariant-loop-item
invariant-loop-item l = record {
  so_far : read_each argument_in (items_view l.items) ≡ option_map (λ rest. l.args ++ rest) (read_each argument_in (items_view (drop l.item-index l.items)));
  count : length l.args ≡ l.item-index;
}
