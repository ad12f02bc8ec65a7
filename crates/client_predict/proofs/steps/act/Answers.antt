use Rattle.std.proofs.Common.{rules}
use Rattle.client_predict.proofs.Keeping.{kept_with}
use Rattle.client_predict.proofs.steps.act.Goals as goal

pub returns-clause-kept : goal.returns-clause-kept
returns-clause-kept g c =
    kept_with (g.X.Game.rules c.args.game.now) c.args.part.now c.wait.new.self c.in_ok-line.waits c.in_ok-line.guess c.requires.kept
    (search rules) (search rules) (search rules) c.wait.ensures.stays (search rules) (search rules) c.wait.ensures.room
