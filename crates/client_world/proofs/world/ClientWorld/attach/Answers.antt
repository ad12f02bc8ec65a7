use Rattle.std.proofs.lemmas.Result.{IfOk-weaker}
use Rattle.client_world.proofs.Doing.{attached}
use Rattle.client_world.proofs.world.ClientWorld.attach.Goals as goal

pub returns-in-Ok : goal.returns-in-Ok
returns-in-Ok c = λ tape w is.
    IfOk-weaker c.seat.result _ _
    (λ text s. attached tape w c.args.client c.args.game c.args.name c.args.seat c.args.protocol _ text.items c.in_ok-player.player c.in-Ok.line.items c.in_ok-player.ensures c.in-Ok.ensures s.0 s.1)
    (c.seat.ensures tape w is)
