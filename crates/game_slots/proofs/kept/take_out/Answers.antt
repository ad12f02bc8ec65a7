-- A number is taken out as its value is.
use Rattle.std.proofs.Common.{◌≡◌, map, remove, sym, ap, ◌∙◌, arith}
use Rattle.std.specs.Prelude.{slice_set, swap, length}
use Rattle.game_slots.specs.Keeping.{kept_items}
use Rattle.slot_values.specs.Values.{whole}
use Rattle.game_slots.proofs.KeptLemmas.{map_remove}
use Rattle.game_slots.proofs.kept.take_out.Goals as goal

pub returns-in-Numbers : goal.returns-in-Numbers
returns-in-Numbers c =
    ap (map whole) c.remove.ensures.items ∙ map_remove whole c.in-Numbers.numbers.items c.args.place ∙ ap (λ k. remove (kept_items k) c.args.place) (sym c.in-Numbers.is)
