use Rattle.board_bots.proofs.Asked.{if_ok}
use Rattle.board_bots.proofs.bot_link.BotLink.say.Goals as goal

pub returns-clause-receives : goal.returns-clause-receives
returns-clause-receives g c = if_ok _ _ c.tell.result (λ answer h. h _ _ c.in_ok-said.ensures.does) c.tell.ensures.receives
