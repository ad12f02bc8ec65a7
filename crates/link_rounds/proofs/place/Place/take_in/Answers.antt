use Rattle.std.proofs.Common.{rules, sym, subst}
use Rattle.link_rounds.specs.Places.{Sits, about}
use Rattle.link_rounds.proofs.Sittings.{begun}
use Rattle.link_rounds.proofs.place.Place.take_in.Goals as goal

pub returns-clause-sits : goal.returns-clause-sits
returns-clause-sits g c =
    let a = about g.L.Link.answers g.L.Link.sent g.L.Link.faults g.L.Link.stage g.L.Link.clear g.L.Link.is_bot in
    let i = c.self.inside in
    let sits = subst (λ p. Sits g.S.Service.turn g.S.Service.leave a g.S.Service.rests p) (sym c.self.view_is) c.requires.sits in
    begun g.S.Service.turn g.S.Service.leave a g.S.Service.rests i.service i.link i.end c.args.link (search rules) c.requires.new sits
