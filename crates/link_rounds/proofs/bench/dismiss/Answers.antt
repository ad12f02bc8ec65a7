use Rattle.std.proofs.Common.{◌≡◌, ◌<◌, ◌∙◌, ◌&&◌, length, ap, arith, slice_index_or, sym, subst}
use Rattle.std.proofs.Math.Seq.{map-set_same}
use Rattle.std.proofs.lemmas.List.Elements.{All-set}
use Rattle.board_links.specs.Doors.{one_bot, one_other}
use Rattle.link_rounds.specs.Places.{Sits, SitsWith, about, seat}
use Rattle.link_rounds.proofs.Benches.{left}
use Rattle.link_rounds.proofs.bench.dismiss.Goals as goal

pub returns-in_default-clause-numbers : goal.returns-in_default-clause-numbers
returns-in_default-clause-numbers g c =
    map-set_same (λ p. g.S.Service.number p.service) c.args.places.now c.args.number c.hand_out.new.self c.index-places-place.result (ap g.S.Service.number c.hand_out.ensures.service)

pub returns-clause-fit : goal.returns-clause-fit
returns-clause-fit g c =
    let low : c.args.number < length c.args.places.now = omega arith in
    let last = seat c.give_back.new.service c.hand_out.new.self.link c.hand_out.new.self.end in
    let same : c.give_back.new.service ≡ (slice_index_or c.args.places.now c.args.number c.index-places-place.result).service = ◌∙◌ {a = c.give_back.new.service} c.give_back.ensures.same (c.service_mut.ensures.value ∙ c.hand_out.ensures.service) in
    All-set (λ p. g.S.Service.fits c.args.hall.now p.service) c.args.places.now c.args.number last
    (subst (g.S.Service.fits c.args.hall.now) (sym same) (c.requires.fit c.args.number c.index-places-place.result low)) c.requires.fit

pub returns-clause-sit : goal.returns-clause-sit
returns-clause-sit g c =
    let a = about g.D.L.Link.answers g.D.L.Link.sent g.D.L.Link.faults g.D.L.Link.stage g.D.L.Link.clear g.D.L.Link.is_bot in
    let last = seat c.give_back.new.service c.hand_out.new.self.link c.hand_out.new.self.end in
    let same : c.give_back.new.service ≡ c.hand_out.new.self.service = ◌∙◌ {a = c.give_back.new.service} c.give_back.ensures.same c.service_mut.ensures.value in
    All-set (Sits g.S.Service.turn g.S.Service.leave a g.S.Service.rests) c.args.places.now c.args.number last
    (subst (λ s. SitsWith g.S.Service.turn g.S.Service.leave a g.S.Service.rests s c.hand_out.new.self.link c.hand_out.new.self.end) (sym same) c.hand_out.ensures.sits) c.requires.sit

pub returns-clause-numbers : goal.returns-clause-numbers
returns-clause-numbers g c =
    let last = seat c.give_back.new.service c.hand_out.new.self.link c.hand_out.new.self.end in
    let same : c.give_back.new.service ≡ (slice_index_or c.args.places.now c.args.number c.index-places-place.result).service = ◌∙◌ {a = c.give_back.new.service} c.give_back.ensures.same (c.service_mut.ensures.value ∙ c.hand_out.ensures.service) in
    map-set_same (λ p. g.S.Service.number p.service) c.args.places.now c.args.number last c.index-places-place.result (ap g.S.Service.number same)

pub returns-clause-others : goal.returns-clause-others
returns-clause-others g c =
    let low : c.args.number < length c.args.places.now = omega arith in
    let last = seat c.give_back.new.service c.hand_out.new.self.link c.hand_out.new.self.end in
    let one = left (λ bot. one_other (g.D.Door.has_bots && bot)) g.D.L.Link.is_bot c.args.places.now c.args.number last c.index-places-place.result c.in-Some.link low c.in-Some.ensures.given.0 c.in-Some.ensures.given.1 in
    omega (arith, one, c.give_back.ensures.others, c.requires.others)

pub returns-clause-bots : goal.returns-clause-bots
returns-clause-bots g c =
    let low : c.args.number < length c.args.places.now = omega arith in
    let last = seat c.give_back.new.service c.hand_out.new.self.link c.hand_out.new.self.end in
    let one = left (λ bot. one_bot (g.D.Door.has_bots && bot)) g.D.L.Link.is_bot c.args.places.now c.args.number last c.index-places-place.result c.in-Some.link low c.in-Some.ensures.given.0 c.in-Some.ensures.given.1 in
    omega (arith, one, c.give_back.ensures.bots, c.requires.bots)
