use Rattle.phase_flow.proofs.Sounds.{MapLaws, run_event_fits, settled_sound}
use Rattle.phase_flow.specs.Flow.{run_event}
use Rattle.phase_flow.proofs.calls.run_event.Goals as goal

pub returns-clause-sound : goal.returns-clause-sound
returns-clause-sound g c most s =
    let rules = g.X.Game.rules c.args.game.now in
    let maps = c.maps_stay_sound.ensures in
    let laws : MapLaws = record { null = maps.null; set = maps.set; set_stage = maps.set_stage; end_stage = maps.end_stage; count_move = maps.count_move; greater_bound = maps.greater_bound } in
    settled_sound rules.sheet most c.run_event.result c.run_event.new.tape.left (run_event rules c.args.seat c.args.event c.args.table c.args.tape.now.left) c.run_event.ensures.answer
    (run_event_fits rules c.sheet-sheet.ensures.fits (g.met.X.Game.in_sheet c.args.game.now) laws most c.args.seat c.args.event c.args.table c.args.tape.now.left s c.requires.seat c.requires.event)
