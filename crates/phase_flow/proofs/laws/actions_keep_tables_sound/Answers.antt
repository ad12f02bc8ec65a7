use Rattle.std.proofs.Common.{◌<◌, subst, sym}
use Rattle.phase_flow.proofs.Grounds.{once_fits}
use Rattle.phase_flow.proofs.Keeping.{once_keeps}
use Rattle.phase_flow.proofs.Sounds.{MapLaws}
use Rattle.phase_flow.proofs.laws.actions_keep_tables_sound.Goals as goal

pub returns : goal.returns
returns g c = λ any seats moves turns seat act now next good seated known e.
    let maps = c.maps_stay_sound.ensures in
    let laws : MapLaws = record { null = maps.null; set = maps.set; set_stage = maps.set_stage; end_stage = maps.end_stage; count_move = maps.count_move; greater_bound = maps.greater_bound } in
    let rules = g.X.Game.rules any in
    let lawful = g.met.X.Game.lawful any in
    let keeps = g.met.X.Game.in_sheet any in
    let held = once_keeps rules lawful keeps seats turns seat act now next (good.own, good.turns, good.seats, good.over) known e in
    let sound = once_fits rules lawful.fits keeps laws moves seat act now next good.sound (subst (λ n. seat < n) (sym good.seats) seated) known e in
    record { own = held.0; sound = sound; turns = held.1; seats = held.2; over = held.3 }
