use Rattle.std.proofs.Common.{subst, sym}
use Rattle.board_links.specs.Pieces.{told_bytes}
use Rattle.world_script.specs.ScriptLaws.{script_is_played}
use Rattle.script_steps.specs.ScriptDoing.{script_doing}
use Rattle.world_script.specs.ScriptPlay.{first_hall, script_play}
use Rattle.world_script.proofs.Beginning.{script_begins}
use Rattle.line_runner.proofs.EndLaws.{completes_over, stops_over}
use Rattle.world_script.proofs.script.run_script.Goals as goal

pub returns-in-Err-clause-ends : goal.returns-in-Err-clause-ends
returns-in-Err-clause-ends g c = λ l.
    stops_over script_play script_doing first_hall script_is_played (told_bytes (g.S.Source.left c.args.source.now)) (told_bytes (g.S.Source.left c.args.source.now)) (g.K.Sink.held c.args.sink.now)

pub run_lines-exit-requires : goal.run_lines-exit-requires
run_lines-exit-requires g c = (first_hall, subst (λ x. script_doing.Stands x first_hall) (sym c.new-player.ensures) (script_begins c.in-Ok.hall c.in-Ok.ensures))

pub returns-in-Ok-clause-ends : goal.returns-in-Ok-clause-ends
returns-in-Ok-clause-ends g c = c.run_lines-exit.ensures.ends first_hall
    (subst (λ x. script_doing.Stands x first_hall) (sym c.new-player.ensures) (script_begins c.in-Ok.hall c.in-Ok.ensures))

pub returns-in-Ok-clause-completes : goal.returns-in-Ok-clause-completes
returns-in-Ok-clause-completes g c = λ l f s t.
    let stands : script_doing.Stands c.new-player.result first_hall = subst (λ x. script_doing.Stands x first_hall) (sym c.new-player.ensures) (script_begins c.in-Ok.hall c.in-Ok.ensures) in
    completes_over script_play first_hall c.run_lines-exit.result (told_bytes (g.S.Source.left c.args.source.now)) (told_bytes (g.S.Source.left c.run_lines-exit.new.source))
    (g.K.Sink.held c.args.sink.now) (g.K.Sink.held c.run_lines-exit.new.sink)
    (g.S.Source.faults c.args.source.now) (g.S.Source.faults c.run_lines-exit.new.source) (g.K.Sink.faults c.args.sink.now) (g.K.Sink.faults c.run_lines-exit.new.sink)
    (c.run_lines-exit.ensures.ends first_hall stands l) c.run_lines-exit.ensures.raises f s t
