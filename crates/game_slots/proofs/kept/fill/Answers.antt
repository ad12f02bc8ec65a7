-- One item more has the value.
use Rattle.std.proofs.Common.{◌≡◌, map, remove, sym, ap, ◌∙◌, arith}
use Rattle.std.specs.Prelude.{slice_set, swap, length}
use Rattle.game_slots.specs.Keeping.{kept_items}
use Rattle.slot_values.specs.Values.{whole}
use Rattle.game_slots.proofs.KeptLemmas.{fill_step}
use Rattle.game_slots.proofs.kept.fill.Goals as goal

pub loop-place-preserved : goal.loop-place-preserved
loop-place-preserved c =
    c.in_ok-put.ensures ∙ ap (λ xs. slice_set xs c.loop-place.place c.args.value.now) c.loop-place.invariant
    ∙ fill_step c.loop-place.place c.args.value.now (kept_items c.args.kept.now) (omega (arith, c.loop-place-test.true, c.len-place-end.ensures))
