use Rattle.bot_sitter.proofs.Acted.{acted_as, if_ok}
use Rattle.bot_sitter.proofs.ear.Ear.act.Goals as goal

pub returns-clause-acted : goal.returns-clause-acted
returns-clause-acted g c =
    let same = rw c.in-Some.is at c.self.invariant.game_is in
    let key = rw c.in-Some.is at c.self.invariant.key_is in
    if_ok _ _ c.act_of.result
    (λ line a. acted_as g.X.Game.rules c.self.inside.game c.self.inside.told c.self.inside.client c.in-Some.client c.act_of.new.client c.args.asked.now line.items c.args.self.now
    c.self.view_is c.in-Some.is same key a) c.act_of.ensures.acted
