use Rattle.match_master.proofs.ClauseLaws.{judges_by_sight, leaves_others, refuses, tells_alike, tells_streams}
use Rattle.match_master.proofs.StandsLaws.{done}
use Rattle.match_master.proofs.book.Book.apply.Goals as goal

pub returns-clause-answered : goal.returns-clause-answered
returns-clause-answered g c = λ h s.
    (done g.X.Game.rules c.args.self.now c.answer.new.self h s c.args.pass c.args.call c.answer.result (c.answer.ensures.goes _ s.match_held)).0

pub returns-clause-stands : goal.returns-clause-stands
returns-clause-stands g c = λ h s.
    (done g.X.Game.rules c.args.self.now c.answer.new.self h s c.args.pass c.args.call c.answer.result (c.answer.ensures.goes _ s.match_held)).1

pub returns-clause-refused : goal.returns-clause-refused
returns-clause-refused g c = λ h s.
    refuses g.X.Game.rules c.args.self.now.room h c.args.pass c.args.call c.answer.result
    (done g.X.Game.rules c.args.self.now c.answer.new.self h s c.args.pass c.args.call c.answer.result (c.answer.ensures.goes _ s.match_held)).0

pub returns-clause-streams : goal.returns-clause-streams
returns-clause-streams g c = λ h s.
    tells_streams g.X.Game.rules c.args.self.now.room h c.args.pass c.args.call c.answer.result
    (done g.X.Game.rules c.args.self.now c.answer.new.self h s c.args.pass c.args.call c.answer.result (c.answer.ensures.goes _ s.match_held)).0

pub returns-clause-judged : goal.returns-clause-judged
returns-clause-judged g c = λ h s.
    judges_by_sight g.X.Game.rules c.args.self.now.room h c.args.pass c.args.call c.answer.result
    (done g.X.Game.rules c.args.self.now c.answer.new.self h s c.args.pass c.args.call c.answer.result (c.answer.ensures.goes _ s.match_held)).0

pub returns-clause-alike : goal.returns-clause-alike
returns-clause-alike g c = λ h s.
    tells_alike g.X.Game.rules c.args.self.now.room h c.args.pass c.args.call c.answer.result
    (done g.X.Game.rules c.args.self.now c.answer.new.self h s c.args.pass c.args.call c.answer.result (c.answer.ensures.goes _ s.match_held)).0

pub returns-clause-others : goal.returns-clause-others
returns-clause-others g c = λ h s. leaves_others g.X.Game.rules c.args.self.now.room h c.args.pass c.args.call c.answer.result
