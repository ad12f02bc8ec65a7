use Rattle.std.proofs.Common.{arith}
use Rattle.player_sight.proofs.ShownPlain.{seen_plain}
use Rattle.player_sight.proofs.snapshots.snapshot.Goals as goal

pub returns-clause-plain : goal.returns-clause-plain
returns-clause-plain g c = λ own plain may.
    seen_plain (g.X.Game.rules c.args.game.now) c.sheet.result.now c.args.number c.args.ctx.now c.in_ok-ctx.ctx c.args.g.now c.in_ok-shown.shown c.args.log.now c.in_ok-log.log c.args.viewer
    (g.met.X.Game.lawful c.args.game.now) c.sheet.ensures.value (omega arith) c.in_ok-ctx.ensures c.in_ok-shown.ensures c.in_ok-log.ensures own plain may
