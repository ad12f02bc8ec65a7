use Rattle.board_links.specs.Pieces.{told_bytes}
use Rattle.board_commands.proofs.Players.{starved}
use Rattle.board_commands.specs.Playing.{who_asks}
use Rattle.board_commands.proofs.playing.play.Goals as goal

pub returns-in-Err-NoMemory-clause-ends : goal.returns-in-Err-NoMemory-clause-ends
returns-in-Err-NoMemory-clause-ends g c asked is tells told =
    starved asked.game (who_asks asked) (told_bytes (g.S.Source.left c.args.source.now)) (g.K.Sink.held c.args.sink.now) (g.L.Link.sent c.args.link.now) (g.L.Link.answers c.args.link.now)
