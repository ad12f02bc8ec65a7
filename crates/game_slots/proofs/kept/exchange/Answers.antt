-- Numbers change places as their values do.
use Rattle.std.proofs.Common.{◌≡◌, map, remove, sym, ap, ◌∙◌, arith}
use Rattle.std.specs.Prelude.{slice_set, swap, length}
use Rattle.game_slots.specs.Keeping.{kept_items}
use Rattle.slot_values.specs.Values.{whole}
use Rattle.game_slots.proofs.KeptLemmas.{map_swap}
use Rattle.game_slots.proofs.kept.exchange.Goals as goal

pub returns-in-Numbers : goal.returns-in-Numbers
returns-in-Numbers c =
    ap (map whole) c.swap.ensures.items ∙ map_swap whole c.in-Numbers.numbers.items c.args.one c.args.other ∙ ap (λ k. swap (kept_items k) c.args.one c.args.other) (sym c.in-Numbers.is)
