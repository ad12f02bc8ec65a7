use Rattle.std.proofs.Common.{◌+◌}
use Rattle.phase_flow.proofs.Sounds.{MapLaws, moved_fits, settled_sound}
use Rattle.phase_flow.specs.Flow.{moved}
use Rattle.phase_flow.proofs.calls.moved.Goals as goal

pub returns-clause-sound : goal.returns-clause-sound
returns-clause-sound g c most s =
    let rules = g.X.Game.rules c.args.game.now in
    let maps = c.maps_stay_sound.ensures in
    let laws : MapLaws = record { null = maps.null; set = maps.set; set_stage = maps.set_stage; end_stage = maps.end_stage; count_move = maps.count_move; greater_bound = maps.greater_bound } in
    settled_sound rules.sheet (most + 1) c.moved.result c.moved.new.tape.left (moved rules c.args.seat c.args.counted c.args.table c.args.tape.now.left c.args.events) c.moved.ensures.answer
    (moved_fits rules c.sheet-sheet.ensures.fits (g.met.X.Game.in_sheet c.args.game.now) laws most c.args.seat c.args.counted c.args.table c.args.tape.now.left c.args.events s c.requires.seat c.requires.events)
