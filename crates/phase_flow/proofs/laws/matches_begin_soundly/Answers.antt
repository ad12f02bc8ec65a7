use Rattle.phase_flow.proofs.Grounds.{begins_fit}
use Rattle.phase_flow.proofs.Keeping.{begins_own}
use Rattle.phase_flow.proofs.Sounds.{MapLaws}
use Rattle.phase_flow.proofs.laws.matches_begin_soundly.Goals as goal

pub returns : goal.returns
returns g c = λ any seats seed first least most e.
    let maps = c.maps_stay_sound.ensures in
    let laws : MapLaws = record { null = maps.null; set = maps.set; set_stage = maps.set_stage; end_stage = maps.end_stage; count_move = maps.count_move; greater_bound = maps.greater_bound } in
    let rules = g.X.Game.rules any in
    let lawful = g.met.X.Game.lawful any in
    let keeps = g.met.X.Game.in_sheet any in
    let held = begins_own rules lawful keeps seats seed first least most e in
    record { own = held.0; sound = begins_fit rules lawful.fits keeps laws seats seed first least most e; turns = held.1; seats = held.2; over = held.3 }
