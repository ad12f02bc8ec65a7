use Rattle.std.proofs.Common.{None, subst, sym}
use Rattle.board_links.specs.Pieces.{told_bytes}
use Rattle.line_runner.proofs.EndLaws.{completes_over}
use Rattle.page_player.specs.Page.{page_doing, page_play}
use Rattle.page_player.proofs.Played.{stands_first}
use Rattle.page_player.proofs.page.run_page.Goals as goal

pub run_lines-exit-requires : goal.run_lines-exit-requires
run_lines-exit-requires g c = (None, stands_first c.new-page.result c.new-page.ensures)

pub returns-clause-ends : goal.returns-clause-ends
returns-clause-ends g c = c.run_lines-exit.ensures.ends None (stands_first c.new-page.result c.new-page.ensures)

pub returns-clause-completes : goal.returns-clause-completes
returns-clause-completes g c = λ l f s t.
    completes_over page_play None c.run_lines-exit.result (told_bytes (g.S.Source.left c.args.source.now)) (told_bytes (g.S.Source.left c.run_lines-exit.new.source))
    (g.K.Sink.held c.args.sink.now) (g.K.Sink.held c.run_lines-exit.new.sink)
    (g.S.Source.faults c.args.source.now) (g.S.Source.faults c.run_lines-exit.new.source) (g.K.Sink.faults c.args.sink.now) (g.K.Sink.faults c.run_lines-exit.new.sink)
    (c.run_lines-exit.ensures.ends None (stands_first c.new-page.result c.new-page.ensures) l) c.run_lines-exit.ensures.raises f s t
