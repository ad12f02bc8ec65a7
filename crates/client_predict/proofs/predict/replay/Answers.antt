use Rattle.std.proofs.Common.{rules}
use Rattle.client_predict.specs.Stack.{snapshot_of}
use Rattle.client_predict.proofs.Stacks.{next_guess}
use Rattle.client_predict.proofs.predict.replay.Goals as goal

pub loop-w-preserved : goal.loop-w-preserved
loop-w-preserved g c =
    rw c.in_ok-push.ensures.items (next_guess (g.X.Game.rules c.args.game.now) c.args.seat (snapshot_of c.args.s.now) c.args.waiting.now c.loop-w.w-index c.w-item.result c.loop-w.stack.items c.in_ok-guess.guess
    (search rules) (search rules) (search rules) (search rules))
