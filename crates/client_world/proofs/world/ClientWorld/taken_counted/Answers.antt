use Rattle.std.proofs.Common.{None, subst}
use Rattle.std.proofs.lemmas.Result.{IfOk-weaker}
use Rattle.client_world.specs.Counted.{HasHanded, HasHandedReply}
use Rattle.client_world.proofs.Counted.{handed_nothing}
use Rattle.client_world.proofs.world.ClientWorld.taken_counted.Goals as goal

pub returns-in_default : goal.returns-in_default
returns-in_default c = λ tape w is.
    let after = c.hand_counted-in_default.new.self in
    IfOk-weaker c.hand_counted-in_default.result (λ count. HasHanded tape w c.args.client c.none.result None count after) (λ count. HasHandedReply tape w c.args.client c.args.reply count after)
    (λ count h. handed_nothing tape w c.args.client after c.args.reply count c.in_default.not-NotAttached (λ bytes end e. c.in_default.not-Taken bytes end e)
    (subst (λ bytes. HasHanded tape w c.args.client bytes None count after) c.none.ensures h)) (c.hand_counted-in_default.ensures tape w is)
