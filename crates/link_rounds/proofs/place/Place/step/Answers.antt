use Rattle.std.proofs.Common.{rules, sym, subst}
use Rattle.link_rounds.specs.Places.{Sits, about}
use Rattle.link_rounds.proofs.Sittings.{flushed, stepped}
use Rattle.link_rounds.proofs.place.Place.step.Goals.{then-flush, else-flush}
use Rattle.link_rounds.proofs.place.Place.step.Goals as goal

pub returns-clause-sits : goal.returns-clause-sits
returns-clause-sits g c =
    let a = about g.L.Link.answers g.L.Link.sent g.L.Link.faults g.L.Link.stage g.L.Link.clear g.L.Link.is_bot in
    let i = c.self.inside in
    let sits = subst (λ p. Sits g.S.Service.turn g.S.Service.leave a g.S.Service.rests p) (sym c.self.view_is) c.requires.sits in
    elim c.if-flush.branch [
      | then-flush w ↦ rw (w.self-inside-is)
          (stepped g.S.Service.turn g.S.Service.leave a g.S.Service.rests i.service w.serve.new.service i.link i.end c.in-Some.link c.flush.new.self w.serve.new.link w.serve.result
          c.in-Some.is (search rules) c.flush.ensures.answers c.flush.ensures.sent w.serve.ensures.tells_answers w.serve.ensures.tells_sent sits w.serve.ensures.takes w.serve.ensures.rests w.serve.ensures.shows)
      | else-flush w ↦ rw (w.self-inside-is)
          (flushed g.S.Service.turn g.S.Service.leave a g.S.Service.rests i.service i.link i.end c.in-Some.link c.flush.new.self c.in-Some.is (search rules) c.flush.ensures.answers c.flush.ensures.sent sits)
    ]
