use Rattle.std.proofs.Common.{Some, rules}
use Rattle.client_predict.proofs.Acted.{acted_is}
use Rattle.client_predict.proofs.client.Client.act.Goals as goal
use Rattle.client_predict.proofs.client.Client.act.Goals.{in-None, in-Some, in-Some-2, in-Some-3+in-Ok, in-Some-3+in-Err}

pub returns-clause-acted : goal.returns-clause-acted
returns-clause-acted g c = elim c.match-self.branch [
  | in-None w ↦ rw w.result-is tt
  | in-Some w ↦ rw w.result-is tt
  | in-Some-2 w ↦ rw w.result-is tt
  | in-Some-3+in-Ok w ↦
      let p = w.in-Some-3.part in
      rw (w.result-is, w.self-inside-is, ← c.self.view_is, w.in-Some-3.is) (acted_is (g.X.Game.rules c.self.inside.game) c.self.inside.game c.self.inside.key c.self.inside.gone p w.act.new.part
      c.args.asked.now w.in-Ok.made.0.items w.in-Ok.made.1 w.if-self.false (search rules) (search rules) (search rules) (search rules))
  | in-Some-3+in-Err w ↦ rw w.result-is tt
]
