use Rattle.bot_sitter.proofs.Sending.{grown, kept, raised, seat_kept, sends_on}
use Rattle.bot_sitter.proofs.sitter.Sitter.send.Goals as goal

pub returns-clause-sends : goal.returns-clause-sends
returns-clause-sends g c = sends_on (g.X.Game.rules c.args.self.now.game) c.hear.result c.args.bytes.now _ _ c.hear.ensures.hears

pub returns-clause-raises : goal.returns-clause-raises
returns-clause-raises g c = raised (g.X.Game.rules c.args.self.now.game) c.hear.result c.args.bytes.now _ _ c.hear.ensures.hears

pub returns-clause-grows : goal.returns-clause-grows
returns-clause-grows g c = grown (g.X.Game.rules c.args.self.now.game) c.hear.result c.args.bytes.now _ _ c.hear.ensures.cut c.hear.ensures.hears

pub returns-clause-kept : goal.returns-clause-kept
returns-clause-kept g c = kept (g.X.Game.rules c.args.self.now.game) c.hear.result c.args.bytes.now _ _ c.hear.ensures.hears

pub returns-clause-seated : goal.returns-clause-seated
returns-clause-seated g c = seat_kept (g.X.Game.rules c.args.self.now.game) c.hear.result c.args.bytes.now _ _ c.hear.ensures.hears c.hear.ensures.seated
