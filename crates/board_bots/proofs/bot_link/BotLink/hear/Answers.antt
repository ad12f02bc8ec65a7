use Rattle.std.proofs.Common.{[]}
use Rattle.board_bots.proofs.Asked.{sight_sent}
use Rattle.board_bots.proofs.bot_link.BotLink.hear.Goals as goal

pub returns-clause-sight : goal.returns-clause-sight
returns-clause-sight g c = λ opening sees. sight_sent _ _ opening _ [] c.send.ensures.grows c.send.ensures.kept sees
