-- A number is put as its value is.
use Rattle.std.proofs.Common.{◌≡◌, map, remove, sym, ap, ◌∙◌, arith}
use Rattle.std.specs.Prelude.{slice_set, swap, length}
use Rattle.game_slots.specs.Keeping.{kept_items}
use Rattle.slot_values.specs.Values.{whole}
use Rattle.std.proofs.lemmas.List.{map-set}
use Rattle.game_slots.proofs.kept.put.Goals as goal

pub returns-in-Some : goal.returns-in-Some
returns-in-Some c =
    map-set whole c.in-Numbers.numbers.items c.args.place c.in-Some.number ∙ ap (λ k. slice_set (kept_items k) c.args.place (whole c.in-Some.number)) (sym c.in-Numbers.is)
    ∙ ap (slice_set (kept_items c.args.kept.now) c.args.place) (sym c.in-Some.ensures)
