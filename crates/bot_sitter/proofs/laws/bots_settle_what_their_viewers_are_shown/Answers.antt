use Rattle.bot_sitter.proofs.Agreeing.{agrees_more}
use Rattle.bot_sitter.proofs.laws.bots_settle_what_their_viewers_are_shown.Goals as goal

pub returns : goal.returns
returns g c = λ any before more all client e h. agrees_more (g.X.Game.rules any) before more all client e h
