use Rattle.client_predict.specs.Reading.{reads}
use Rattle.client_predict.specs.declared.told.Told.TheVariants.{Refused}
use Rattle.client_predict.proofs.Rollbacks.{rolls_back, told_as}
use Rattle.client_predict.proofs.client.Client.feed.Goals as goal

pub returns-clause-rolled_back : goal.returns-clause-rolled_back
returns-clause-rolled_back g c = λ ticket reason is.
    let rules = g.X.Game.rules c.args.self.now.game in
    let heard = told_as c.args.self.now c.read.new.self c.read.result (reads rules c.args.self.now.client c.args.line.now) (Refused ticket reason) is c.read.ensures in
    rolls_back rules ticket reason c.args.self.now.client c.read.new.self.client c.args.line.now heard.1 heard.0
