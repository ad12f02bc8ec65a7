-- The items that are kept: numbers and null as numbers, or any values.
use Rattle.std.specs.Prelude.{List, map, Option}
use Rattle.game_sheet.specs.declared.args.Arg.{Arg}
use Rattle.slot_values.specs.Values.{whole}
use Rattle.game_slots.specs.declared.kept.Kept.{Kept}
use Rattle.game_slots.specs.declared.kept.Kept.TheVariants.{Numbers, Values}

abbrev pub kept_items : Kept → List (Option Arg)
kept_items (Numbers numbers) = map whole numbers.items
kept_items (Values values) = values.items
