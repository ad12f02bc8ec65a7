use Rattle.phase_flow.proofs.Sounds.{MapLaws, begin_fits, settled_sound}
use Rattle.phase_flow.specs.Flow.{begin}
use Rattle.phase_flow.proofs.calls.begin.Goals as goal

pub returns-clause-sound : goal.returns-clause-sound
returns-clause-sound g c =
    let rules = g.X.Game.rules c.args.game.now in
    let maps = c.maps_stay_sound.ensures in
    let laws : MapLaws = record { null = maps.null; set = maps.set; set_stage = maps.set_stage; end_stage = maps.end_stage; count_move = maps.count_move; greater_bound = maps.greater_bound } in
    settled_sound rules.sheet 0 c.begin.result c.begin.new.tape.left (begin rules c.args.seats c.args.tape.now.left) c.begin.ensures.answer
    (begin_fits rules c.sheet-sheet.ensures.fits (g.met.X.Game.in_sheet c.args.game.now) laws c.args.seats c.args.tape.now.left c.requires.least c.requires.most)
