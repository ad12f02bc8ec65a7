use Rattle.std.proofs.Common.{None, subst}
use Rattle.std.proofs.lemmas.Result.{IfOk-weaker}
use Rattle.client_world.specs.Outcomes.{Hands, HandsReply}
use Rattle.client_world.proofs.Doing.{hands_nothing}
use Rattle.client_world.proofs.world.ClientWorld.taken.Goals as goal

pub returns-in_default : goal.returns-in_default
returns-in_default c = λ tape w is.
    let after = c.hand-in_default.new.self in
    IfOk-weaker c.hand-in_default.result (λ text. Hands tape w c.args.client c.none.result None after text.items) (λ text. HandsReply tape w c.args.client c.args.reply after text.items)
    (λ text h. hands_nothing tape w c.args.client after text.items c.args.reply c.in_default.not-NotAttached (λ bytes end e. c.in_default.not-Taken bytes end e)
    (subst (λ bytes. Hands tape w c.args.client bytes None after text.items) c.none.ensures h)) (c.hand-in_default.ensures tape w is)
