use Rattle.std.proofs.Common.{rules, Some, sym, subst}
use Rattle.link_rounds.specs.Places.{Sits, SitsWith, about}
use Rattle.link_rounds.proofs.Sittings.{shows_later}
use Rattle.link_rounds.proofs.place.Place.hand_out.Goals as goal

pub returns-then-not-flush-clause-sits : goal.returns-then-not-flush-clause-sits
returns-then-not-flush-clause-sits g c =
    let a = about g.L.Link.answers g.L.Link.sent g.L.Link.faults g.L.Link.stage g.L.Link.clear g.L.Link.is_bot in
    let i = c.self.inside in
    let f = c.if-not-flush.ensures in
    let sits = subst (λ p. Sits g.S.Service.turn g.S.Service.leave a g.S.Service.rests p) (sym c.self.view_is) c.requires.sits in
    subst (λ e. SitsWith g.S.Service.turn g.S.Service.leave a g.S.Service.rests i.service (Some c.flush.new.self) e) (sym c.in-Some.is)
    (shows_later g.S.Service.turn g.S.Service.leave a g.S.Service.rests i.service i.link i.end c.in-Some-take.link c.flush.new.self c.in-Some.why (search rules) c.in-Some.is sits f.stage f.faults f.answers f.sent)
