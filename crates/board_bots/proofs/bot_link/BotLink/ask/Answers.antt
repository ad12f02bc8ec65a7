use Rattle.board_bots.proofs.Asked.{acted_as, if_ok, passed_as}
use Rattle.std.proofs.Common.{refl}
use Rattle.board_bots.proofs.bot_link.BotLink.ask.Goals as goal

pub returns-in-Passes-clause-does : goal.returns-in-Passes-clause-does
returns-in-Passes-clause-does g c =
    let same = c.quiet-in-Passes.ensures.same in
    passed_as c.in_ok-ask_bot.field-0 c.quiet-in-Passes.result c.args.self.now.sitter c.asks_at.new.self c.quiet-in-Passes.new.self.sitter _ _ _ _ _ _ c.in-Passes.number
    c.in-Passes.is c.in_ok-ask_bot.ensures.chooses c.asks_at.ensures.last c.quiet-in-Passes.ensures.quiet same.0 same.1 same.2

pub returns-in-Plays-clause-does : goal.returns-in-Plays-clause-does
returns-in-Plays-clause-does g c =
    if_ok _ _ c.give_act.result (λ answer act. acted_as c.in_ok-ask_bot.field-0 answer c.args.self.now.sitter c.give_act.new.sitter _ _ _ _ _ _
    c.in-Plays.number c.in-Plays.id c.in-Plays.args c.in-Plays.is c.in_ok-ask_bot.ensures.chooses refl refl act) c.give_act.ensures.acts
