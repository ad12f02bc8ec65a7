use Rattle.std.proofs.Common.{subst, sym}
use Rattle.board_links.specs.Pieces.{told_bytes}
use Rattle.world_script.specs.WorldLaws.{world_is_played}
use Rattle.line_runner.specs.declared.exit.Exit.TheVariants.{NoMemory}
use Rattle.world_script.specs.Deliveries.{first_world}
use Rattle.world_script.specs.WorldDoing.{world_doing}
use Rattle.world_script.specs.WorldPlay.{world_play}
use Rattle.world_script.proofs.Beginning.{world_begins}
use Rattle.world_script.proofs.Converging.{converges_in, over_too}
use Rattle.world_script.specs.Converging.{ConvergesIn}
use Rattle.line_runner.proofs.EndLaws.{completes_over, stops_over}
use Rattle.world_script.proofs.world.run_world.Goals as goal

pub returns-in-Err-clause-ends : goal.returns-in-Err-clause-ends
returns-in-Err-clause-ends g c = λ l.
    over_too world_play ConvergesIn (converges_in c.worlds_of_all_games_converge.ensures) first_world
    (told_bytes (g.S.Source.left c.args.source.now)) (told_bytes (g.S.Source.left c.args.source.now)) (g.K.Sink.held c.args.sink.now) (g.K.Sink.held c.args.sink.now) NoMemory
    (stops_over world_play world_doing first_world world_is_played (told_bytes (g.S.Source.left c.args.source.now)) (told_bytes (g.S.Source.left c.args.source.now)) (g.K.Sink.held c.args.sink.now))

pub run_lines-exit-requires : goal.run_lines-exit-requires
run_lines-exit-requires g c = (first_world, subst (λ x. world_doing.Stands x first_world) (sym c.new-player.ensures) (world_begins c.in-Ok.world c.in-Ok.ensures))

pub returns-in-Ok-clause-ends : goal.returns-in-Ok-clause-ends
returns-in-Ok-clause-ends g c = λ l.
    over_too world_play ConvergesIn (converges_in c.worlds_of_all_games_converge.ensures) first_world
    (told_bytes (g.S.Source.left c.args.source.now)) (told_bytes (g.S.Source.left c.run_lines-exit.new.source)) (g.K.Sink.held c.args.sink.now) (g.K.Sink.held c.run_lines-exit.new.sink) c.run_lines-exit.result
    (c.run_lines-exit.ensures.ends first_world (subst (λ x. world_doing.Stands x first_world) (sym c.new-player.ensures) (world_begins c.in-Ok.world c.in-Ok.ensures)) l)

pub returns-in-Ok-clause-completes : goal.returns-in-Ok-clause-completes
returns-in-Ok-clause-completes g c = λ l f s t.
    let stands : world_doing.Stands c.new-player.result first_world = subst (λ x. world_doing.Stands x first_world) (sym c.new-player.ensures) (world_begins c.in-Ok.world c.in-Ok.ensures) in
    completes_over world_play first_world c.run_lines-exit.result (told_bytes (g.S.Source.left c.args.source.now)) (told_bytes (g.S.Source.left c.run_lines-exit.new.source))
    (g.K.Sink.held c.args.sink.now) (g.K.Sink.held c.run_lines-exit.new.sink)
    (g.S.Source.faults c.args.source.now) (g.S.Source.faults c.run_lines-exit.new.source) (g.K.Sink.faults c.args.sink.now) (g.K.Sink.faults c.run_lines-exit.new.sink)
    (c.run_lines-exit.ensures.ends first_world stands l) c.run_lines-exit.ensures.raises f s t
